-- The made text of a feed is read to its edits.
use Rattle.std.proofs.Common.{◌≡◌, ◌≤◌, ◌<◌, ◌+◌, ◌*◌, ◌/◌, ℕ, true, List, length, map, refl, ap, ◌∙◌, arith}
use Rattle.std.specs.Prelude.{Option, Some, nat_le}
use Rattle.std.specs.List.{AllByRecursion, filter, range_with_len}
use Rattle.std.proofs.lemmas.Bool.Decides.{nat_tests}
use Rattle.std.proofs.lemmas.List.{length-map}
use Rattle.std.proofs.lemmas.List.Elements.{All-from_recursion}
use Rattle.si_lists.proofs.Lists.{all_through, all_flat}
use Rattle.si_causes.specs.Text.{text_lines}
use Rattle.si_time.specs.Moments.{moment_text}
use Rattle.si_time.specs.Readings.{day_in}
use Rattle.si_time.proofs.TextFacts.{moment_in-moment_text, moment_in-only, take-moment_text, day_in-date_text, day_in-only}
use Rattle.input_lines.specs.Ahead.{Ends, ahead_in}
use Rattle.journal_model.specs.declared.edit.Item.{Item}
use Rattle.journal_model.specs.Edits.{IsShapedItem, HasItemNumbers}
use Rattle.script_lines.specs.Edits.{edits_ahead}
use Rattle.script_lines.proofs.Shapes.{duration_shaped}
use Rattle.si_workload.specs.declared.shows.Show.{Show}
use Rattle.si_workload.specs.Shows.{shows_of, shows_on}
use Rattle.si_workload.specs.Texts.{moment_at, feed_text}
use Rattle.journal_text.specs.Lines.{item_row}
use Rattle.journal_text.specs.CommandBack.{shown_lines, ahead_of}
use Rattle.epg_soak.specs.WorkloadLoad.{show_item, name_edit, day_edit, service_edits, feed_services, soak_edits}
use Rattle.epg_soak.specs.Journals.{is_item, item_lines}
use Rattle.epg_soak.specs.Laws.{MadeFeedsAreRead}
use Rattle.epg_soak.proofs.Chains.{IsMadeShow, day_made, day_few}
use Rattle.epg_soak.proofs.PlainRows.{IsPlainRow}
use Rattle.epg_soak.proofs.MadeLines.{IsSoakService, date_of, days_below, services_within, in_window, in_clock, item_is_row, name_is_row, day_is_row, feed_lines}
use Rattle.epg_soak.proofs.Reading.{IsPlainEdit, edits_read, edits_short}

-- ---- what the times of shows are read as

whole_day : (day : ℕ) → moment_at (96 * day) / 86400 * 86400 ≡ moment_at (96 * day)
whole_day day = omega arith

-- the midnight of each of the 14 days
pub date_read : (day : ℕ) → day < 14 → day_in (date_of day) ≡ Some (moment_at (96 * day))
date_read day lt =
    let t = moment_at (96 * day) in
    ap day_in (take-moment_text t) ∙ day_in-date_text t (in_window (96 * day) (omega (arith, lt))) ∙ ap (λ (n : ℕ). let o : Option ℕ = Some n in o) (whole_day day)

item_shaped : (s : Show) → IsMadeShow s → IsShapedItem (show_item s)
item_shaped s h =
    let t = moment_at s.start in
    let in_range : s.start < 1352 = (let a = h.show.starts in omega (arith, a)) in
    record {
      start = (moment_in-only (moment_text t) t (moment_in-moment_text t (in_window s.start in_range))).shape;
      length = duration_shaped (900 * s.quarters) (in_clock s.quarters h.show.most);
      country = tt;
      descriptors = tt;
    }

item_numbers : (s : Show) → IsMadeShow s → HasItemNumbers (show_item s)
item_numbers s h = record { id = (let a = h.id in omega (arith, a)); rating = tt; genres = tt; descriptors = tt }

-- ---- edits

name_plain : (service : ℕ) → service ≤ 65535 → IsPlainEdit (name_edit service)
name_plain service le = record { shaped = tt; numbers = le; row = name_is_row service le; rows = tt; few = omega arith }

day_plain : (number service : ℕ) → service ≤ 65535 → (day : ℕ) → day < 14 → IsPlainEdit (day_edit service (shows_of number service) day)
day_plain number service le day lt =
    let on = shows_on day (shows_of number service) in
    let made = day_made number service day in
    let few = day_few number service day in
    let same = length-map on show_item in
    let items = map show_item on in
    record {
      shaped = record {
        day = (day_in-only (date_of day) (moment_at (96 * day)) (date_read day lt)).shape;
        count = omega (arith, few, same);
        items = All-from_recursion IsShapedItem items (all_through IsMadeShow IsShapedItem show_item item_shaped on made);
      };
      numbers = (le, all_through IsMadeShow HasItemNumbers show_item item_numbers on made);
      row = day_is_row number service day le lt;
      rows = all_through IsMadeShow (λ (item : Item). IsPlainRow (item_row item)) show_item item_is_row on made;
      few = omega (arith, few, same);
    }

service_plain : (number service : ℕ) → IsSoakService service → AllByRecursion IsPlainEdit (service_edits number service)
service_plain number service within =
    let le : service ≤ 65535 = (let a = within.1 in omega (arith, a)) in
    let edit = day_edit service (shows_of number service) in
    (name_plain service le, all_through (λ (day : ℕ). day < 14) IsPlainEdit edit (day_plain number service le) (range_with_len 0 14) days_below)

pub edits_plain : (number feed : ℕ) → 1 ≤ feed → feed ≤ 2 → AllByRecursion IsPlainEdit (soak_edits number feed)
edits_plain number feed low high = all_flat IsSoakService IsPlainEdit (service_edits number) (service_plain number) (feed_services feed) (services_within feed low high)

-- ---- the text of a feed

pub count_edits : (number feed : ℕ) → length (soak_edits number feed) ≡ 60
count_edits number feed = refl

whole_text : (text : List ℕ) → nat_le (length text) 67108864 ≡ true → ahead_in 1 (text_lines text) ≡ ahead_of 1 text (Ends (1 + length (shown_lines text)))
whole_text text within = rw within refl

feed_within : (number feed : ℕ) → 1 ≤ feed → feed ≤ 2 → nat_le (length (feed_text number feed)) 67108864 ≡ true
feed_within number feed low high =
    let edits = soak_edits number feed in
    let a = edits_short edits (edits_plain number feed low high) in
    let b = ap (λ (l : List ℕ). length l) (feed_lines number feed low high) in
    let c = count_edits number feed in
    let size : length (feed_text number feed) ≤ 18722400 = omega (arith, a, b, c) in
    grind (arith, nat_tests, size)

-- the lines of the whole text
pub text_whole : (number feed : ℕ) → 1 ≤ feed → feed ≤ 2 → item_lines (feed_text number feed) ≡ length (filter is_item (shown_lines (feed_text number feed)))
text_whole number feed low high = rw (feed_within number feed low high) refl

pub feeds_read : MadeFeedsAreRead
feeds_read number feed low high =
    let text = feed_text number feed in
    let edits = soak_edits number feed in
    let tail = Ends (1 + length (shown_lines text)) in
    ap edits_ahead (whole_text text (feed_within number feed low high)) ∙ ap (λ (t : List ℕ). edits_ahead (ahead_of 1 t tail)) (feed_lines number feed low high)
    ∙ edits_read edits 1 tail (edits_plain number feed low high)
