-- The made lines of a feed are lines of fields: those of its edits and of their items.
use Rattle.std.proofs.Common.{◌≡◌, ◌≤◌, ◌<◌, ◌^◌, ◌*◌, ℕ, Bool, true, List, [], ◌∷◌, ◌++◌, length, map, refl, sym, ap, ap₂, ◌∙◌, arith, append_assoc, lit<, take, drop}
use Rattle.std.specs.Prelude.{nat_le, ◌&&◌, codes, decimal, flat_map}
use Rattle.std.specs.List.{list_all, AllByRecursion, range_with_len}
use Rattle.std.proofs.lemmas.Fmt.{length-decimal-le}
use Rattle.std.proofs.lemmas.List.{length-map, length-append, append-nil, take-append-drop, length-take-le}
use Rattle.si_lists.proofs.Truths.{first_true}
use Rattle.std.proofs.lemmas.List.Concat.{flat_map-append}
use Rattle.std.proofs.lemmas.Bool.Decides.{nat_tests}
use Rattle.std.proofs.lemmas.List.Folds.{list_all-append}
use Rattle.si_lists.proofs.Filters.{list_all-more}
use Rattle.si_time.specs.Moments.{moment_text, duration_text}
use Rattle.si_time.proofs.TextFacts.{moment_text-bytes, duration_text-bytes, length-moment_text, length-duration_text}
use Rattle.si_workload.specs.declared.shows.Show.{Show}
use Rattle.si_workload.specs.Shows.{shows_of, shows_on}
use Rattle.si_workload.specs.Texts.{moment_at, item_line, day_line, day_text, name_line, service_text, feed_text}
use Rattle.journal_model.specs.declared.edit.Edit.{Edit}
use Rattle.script_lines.specs.EditFields.{edit_fields, item_fields}
use Rattle.journal_text.specs.Lines.{line_text, item_row, item_text, items_of}
use Rattle.script_lines.proofs.NumberBack.{small}
use Rattle.journal_text.proofs.PlainFields.{is_written, number_written}
use Rattle.epg_soak.specs.WorkloadLoad.{show_item, name_edit, day_edit, service_edits, feed_services, soak_edits}
use Rattle.epg_soak.proofs.Chains.{IsMadeShow, day_made, day_few}
use Rattle.epg_soak.proofs.PlainRows.{is_plain, all_plain, IsPlainField, IsPlainRow, behind_commas, plain_line}

-- ---- fields

pub number_short : (n : ℕ) → n ≤ 65535 → length (decimal n) ≤ 5
number_short n le =
    let b : 65536 < 10 ^ 5 = lit< tt in
    length-decimal-le 5 n (lit< tt) (omega (arith, le, b)) (small n le)

pub number_plain : (n : ℕ) → n ≤ 65535 → list_all is_plain (decimal n) ≡ true
number_plain n le = all_plain (decimal n) (number_written n (small n le))

number_field : (n : ℕ) → n ≤ 65535 → IsPlainField (decimal n)
number_field n le = record { plain = number_plain n le; short = (let a = number_short n le in omega (arith, a)) }

-- a word and a number
named_field : (word : List ℕ) (n : ℕ) → list_all is_plain word ≡ true → length word ≤ 15 → n ≤ 65535 → IsPlainField (word ++ decimal n)
named_field word n plain short le = record {
  plain = list_all-append is_plain word (decimal n) ∙ rw (plain, number_plain n le) refl;
  short = (let a = number_short n le in omega (arith, a, short, length-append word (decimal n)));
}

time_written : (b : ℕ) → (nat_le 45 b && nat_le b 90) ≡ true → is_written b ≡ true
time_written b h = grind (arith, nat_tests)

abbrev is_time : ℕ → Bool
is_time b = nat_le 45 b && nat_le b 90

time_field : (xs : List ℕ) → list_all is_time xs ≡ true → length xs ≤ 20 → IsPlainField xs
time_field xs h short = record { plain = all_plain xs (list_all-more is_time is_written time_written xs h); short = short }

pub in_window : (quarters : ℕ) → quarters < 1352 → moment_at quarters < 65536 * 86400
in_window quarters lt = omega (arith, lt)

pub in_clock : (quarters : ℕ) → quarters ≤ 8 → 900 * quarters < 360000
in_clock quarters le = omega (arith, le)

-- ---- items

pub item_is_row : (s : Show) → IsMadeShow s → IsPlainRow (item_row (show_item s))
item_is_row s h =
    let a = h.id in
    let b = h.show.starts in
    let t = h.show.title in
    record {
      front = (refl, refl);
      plain = (
        record { plain = refl; short = omega arith },
        (
          number_field s.id (omega (arith, a)),
          (
            time_field (moment_text (moment_at s.start)) (moment_text-bytes (moment_at s.start) (in_window s.start (omega (arith, b)))) (omega (arith, length-moment_text (moment_at s.start))),
            (
              time_field (duration_text (900 * s.quarters)) (duration_text-bytes (900 * s.quarters) (in_clock s.quarters h.show.most)) (omega (arith, length-duration_text (900 * s.quarters))),
              (
                record { plain = refl; short = omega arith },
                (
                  named_field (codes "Show ") s.title refl (omega arith) (omega (arith, t)),
                  (
                    record { plain = refl; short = omega arith },
                    (
                      record { plain = refl; short = omega arith },
                      (
                        record { plain = refl; short = omega arith },
                        (
                          record { plain = refl; short = omega arith },
                          (record { plain = refl; short = omega arith }, tt),
                        ),
                      ),
                    ),
                  ),
                ),
              ),
            ),
          ),
        ),
      );
      few = omega arith;
    }

item_joined : (a b c d : List ℕ)
    → codes "item," ++ a ++ codes "," ++ b ++ codes "," ++ c ++ codes ",eng,Show " ++ d ++ codes ",,,,,\n"
    ≡ (codes "item" ++ behind_commas (a ∷ b ∷ c ∷ codes "eng" ∷ (codes "Show " ++ d) ∷ [] ∷ [] ∷ [] ∷ [] ∷ [] ∷ [])) ++ 10 ∷ []
item_joined a b c d = simp append_assoc refl

pub item_line-is : (s : Show) → IsMadeShow s → item_line s ≡ item_text (show_item s)
item_line-is s h =
    item_joined (decimal s.id) (moment_text (moment_at s.start)) (duration_text (900 * s.quarters)) (decimal s.title)
    ∙ ap (λ (l : List ℕ). l ++ 10 ∷ []) (sym (plain_line (codes "item") (item_fields (show_item s)) (item_is_row s h).plain))

items_lines : (shows : List Show) → AllByRecursion IsMadeShow shows → flat_map item_line shows ≡ flat_map item_text (map show_item shows)
items_lines [] h = refl
items_lines (s ∷ shows) h = ap₂ (λ (a b : List ℕ). a ++ b) (item_line-is s h.0) (items_lines shows h.1)

-- ---- names

pub name_is_row : (service : ℕ) → service ≤ 65535 → IsPlainRow (edit_fields (name_edit service))
name_is_row service le = record {
  front = (refl, refl);
  plain = (
    record { plain = refl; short = omega arith },
    (number_field service le, (record { plain = refl; short = omega arith }, (named_field (codes "Station ") service refl (omega arith) le, tt))),
  );
  few = omega arith;
}

name_joined : (a : List ℕ)
    → codes "name," ++ a ++ codes ",Maker,Station " ++ a ++ codes "\n" ≡ (codes "name" ++ behind_commas (a ∷ codes "Maker" ∷ (codes "Station " ++ a) ∷ [])) ++ 10 ∷ []
name_joined a = simp append_assoc refl

-- the lines of an edit
abbrev pub edit_text : Edit → List ℕ
edit_text e = line_text (edit_fields e) ++ flat_map item_text (items_of e)

name_text : (service : ℕ) → service ≤ 65535 → name_line service ≡ edit_text (name_edit service)
name_text service le =
    name_joined (decimal service)
    ∙ ap (λ (l : List ℕ). l ++ 10 ∷ []) (sym (plain_line (codes "name") (decimal service ∷ codes "Maker" ∷ (codes "Station " ++ decimal service) ∷ []) (name_is_row service le).plain))
    ∙ sym (append-nil (line_text (edit_fields (name_edit service))))

-- ---- days

abbrev pub date_of : ℕ → List ℕ
date_of day = take 10 (moment_text (moment_at (96 * day)))

-- the date of one of the 14 days
pub record IsDate (day : ℕ) : Type 0 where
  pub bytes : list_all is_time (date_of day) ≡ true
  pub size : length (date_of day) ≡ 10

front_all : {X : Type 0} (p : X → Bool) (n : ℕ) (xs : List X) → list_all p xs ≡ true → list_all p (take n xs) ≡ true
front_all {X = X} p n xs h =
    first_true (list_all p (take n xs)) (list_all p (drop n xs)) (sym (list_all-append p (take n xs) (drop n xs)) ∙ ap (λ (l : List X). list_all p l) (take-append-drop n xs) ∙ h)

date_bytes : (day : ℕ) → day < 14 → IsDate day
date_bytes day lt = record {
  bytes = front_all is_time 10 (moment_text (moment_at (96 * day))) (moment_text-bytes (moment_at (96 * day)) (in_window (96 * day) (omega (arith, lt))));
  size = (let a = length-moment_text (moment_at (96 * day)) in length-take-le 10 (moment_text (moment_at (96 * day))) (omega (arith, a)));
}

pub day_is_row : (number service day : ℕ) → service ≤ 65535 → day < 14 → IsPlainRow (edit_fields (day_edit service (shows_of number service) day))
day_is_row number service day le lt =
    let on = shows_on day (shows_of number service) in
    let date = date_bytes day lt in
    let few = day_few number service day in
    let same = length-map on show_item in
    let size = date.size in
    record {
      front = (refl, refl);
      plain = (
        record { plain = refl; short = omega arith },
        (
          number_field service le,
          (
            time_field (date_of day) date.bytes (omega (arith, size)),
            (number_field (length (map show_item on)) (omega (arith, few, same)), tt),
          ),
        ),
      );
      few = omega arith;
    }

day_joined : (a b c : List ℕ)
    → codes "day," ++ a ++ codes "," ++ b ++ codes "," ++ c ++ codes "\n" ≡ (codes "day" ++ behind_commas (a ∷ b ∷ c ∷ [])) ++ 10 ∷ []
day_joined a b c = simp append_assoc refl

day_edit_text : (number service day : ℕ) → service ≤ 65535 → day < 14
    → day_text service (shows_of number service) day ≡ edit_text (day_edit service (shows_of number service) day)
day_edit_text number service day le lt =
    let on = shows_on day (shows_of number service) in
    let edit = day_edit service (shows_of number service) day in
    let line : day_line service day (length (map show_item on)) ≡ line_text (edit_fields edit) =
    day_joined (decimal service) (date_of day) (decimal (length (map show_item on)))
    ∙ ap (λ (l : List ℕ). l ++ 10 ∷ []) (sym (plain_line (codes "day") (decimal service ∷ date_of day ∷ decimal (length (map show_item on)) ∷ []) (day_is_row number service day le lt).plain)) in
    ap₂ (λ (a b : List ℕ). a ++ b) (ap (day_line service day) (sym (length-map on show_item)) ∙ line) (items_lines on (day_made number service day))

-- ---- a feed

flat_same : {X Y : Type 0} (P : X → Type 0) (f g : X → List Y) → ((x : X) → P x → f x ≡ g x) → (xs : List X) → AllByRecursion P xs → flat_map f xs ≡ flat_map g xs
flat_same P f g same [] h = refl
flat_same {Y = Y} P f g same (x ∷ xs) h = ap₂ (λ (a b : List Y). a ++ b) (same x h.0) (flat_same P f g same xs h.1)

flat_mapped : {X Y Z : Type 0} (f : Y → List Z) (g : X → Y) (xs : List X) → flat_map (λ (x : X). f (g x)) xs ≡ flat_map f (map g xs)
flat_mapped f g [] = refl
flat_mapped {Z = Z} f g (x ∷ xs) = ap (λ (l : List Z). f (g x) ++ l) (flat_mapped f g xs)

flat_flat : {X Y Z : Type 0} (f : Y → List Z) (g : X → List Y) (xs : List X) → flat_map (λ (x : X). flat_map f (g x)) xs ≡ flat_map f (flat_map g xs)
flat_flat f g [] = refl
flat_flat {Z = Z} f g (x ∷ xs) = ap (λ (l : List Z). flat_map f (g x) ++ l) (flat_flat f g xs) ∙ sym (flat_map-append f (g x) (flat_map g xs))

pub days_below : AllByRecursion (λ (day : ℕ). day < 14) (range_with_len 0 14)
days_below = (lit< tt, (lit< tt, (lit< tt, (lit< tt, (lit< tt, (lit< tt, (lit< tt, (lit< tt, (lit< tt, (lit< tt, (lit< tt, (lit< tt, (lit< tt, (lit< tt, tt))))))))))))))

-- the services of the multiplex
abbrev pub IsSoakService : ℕ → Type 0
IsSoakService service = (101 ≤ service) × (service ≤ 108)

pub services_within : (feed : ℕ) → 1 ≤ feed → feed ≤ 2 → AllByRecursion IsSoakService (feed_services feed)
services_within feed low high =
    ((omega (arith, low), omega (arith, high)), ((omega (arith, low), omega (arith, high)), ((omega (arith, low), omega (arith, high)), ((omega (arith, low), omega (arith, high)), tt))))

service_lines : (number service : ℕ) → IsSoakService service → service_text number service ≡ flat_map edit_text (service_edits number service)
service_lines number service within =
    let le : service ≤ 65535 = (let a = within.1 in omega (arith, a)) in
    let shows = shows_of number service in
    ap₂ (λ (a b : List ℕ). a ++ b) (name_text service le)
    (flat_same (λ (day : ℕ). day < 14) (day_text service shows) (λ (day : ℕ). edit_text (day_edit service shows day)) (λ day lt. day_edit_text number service day le lt) (range_with_len 0 14) days_below
    ∙ flat_mapped edit_text (day_edit service shows) (range_with_len 0 14))

-- the text of a feed is the lines of its edits
pub feed_lines : (number feed : ℕ) → 1 ≤ feed → feed ≤ 2 → feed_text number feed ≡ flat_map edit_text (soak_edits number feed)
feed_lines number feed low high =
    flat_same IsSoakService (service_text number) (λ (service : ℕ). flat_map edit_text (service_edits number service)) (service_lines number) (feed_services feed) (services_within feed low high)
    ∙ flat_flat edit_text (service_edits number) (feed_services feed)
