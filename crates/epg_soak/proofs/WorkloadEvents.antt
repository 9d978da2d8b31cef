-- The events of shows: what an item of a show is refused for, over the events of the shows before it: nothing.
use Rattle.std.proofs.Common.{◌≡◌, ◌≤◌, ◌<◌, ◌+◌, ◌-◌, ◌*◌, ◌/◌, ℕ, Bool, true, false, not, ◌&&◌, List, [], ◌∷◌, ◌++◌, length, map, refl, sym, ap, subst, ◌∙◌, arith, inl, inr, append_assoc, append-nil}
use Rattle.std.specs.Prelude.{Option, Some, None, nat_lt, nat_le, ◌==◌, if◌then◌else◌, codes, decimal, find, option_map}
use Rattle.std.specs.List.{AllByRecursion}
use Rattle.std.proofs.lemmas.Bool.{cases_Bool, eqb-true}
use Rattle.std.proofs.lemmas.Bool.Decides.{nat_tests}
use Rattle.std.proofs.lemmas.List.{length-map, length-append}
use Rattle.std.proofs.lemmas.List.Sums.{sum_by-cons}
use Rattle.si_time.specs.Moments.{moment_text, duration_text}
use Rattle.si_time.specs.Readings.{moment_in, duration_in}
use Rattle.si_time.proofs.TextFacts.{moment_in-moment_text, duration_in-duration_text}
use Rattle.guide_model.specs.Coding.{all_plain, coded_text, coded_size}
use Rattle.guide_model.specs.Cutting.{pieces, first_pieces}
use Rattle.guide_model.specs.declared.event.Event.{Event}
use Rattle.journal_model.specs.declared.edit.Item.{Item}
use Rattle.journal_model.specs.declared.reply.Field.{Field}
use Rattle.journal_model.specs.declared.reply.DayFault.{DayFault}
use Rattle.journal_model.specs.declared.reply.DayFault.TheVariants as fault
use Rattle.descriptors.specs.EventDescriptors.{entry_size}
use Rattle.guide_limits.specs.Events.{start_of, midnight, block_of, block_size}
use Rattle.guide_limits.specs.Readings.{event_of}
use Rattle.guide_limits.specs.Standing.{or_else, placed}
use Rattle.feed_book.specs.Replies.{is_outside, field_fault, share_instant, without, put, place_fault, item_fault, day_fault}
use Rattle.feed_book.specs.Changes.{puts}
use Rattle.feed_book.proofs.Faults.{not_outside}
use Rattle.si_workload.specs.declared.shows.Show.{Show}
use Rattle.si_workload.specs.Texts.{moment_at}
use Rattle.epg_soak.specs.WorkloadLoad.{show_item}
use Rattle.epg_soak.proofs.Chains.{IsShow, IsChain, chain_few}
use Rattle.epg_soak.proofs.MadeLines.{in_window, in_clock, number_short}

-- the event of a show
abbrev pub show_event : Show → Event
show_event s = record {
  id = s.id;
  start = record { 0 = moment_at s.start };
  seconds = 900 * s.quarters;
  language = codes "eng";
  name = codes "Show " ++ decimal s.title;
  short = [];
  extended = [];
  rating = None;
  genres = [];
  descriptors = [];
}

start_read : (s : Show) → IsShow s → moment_in (moment_text (moment_at s.start)) ≡ Some (moment_at s.start)
start_read s is = moment_in-moment_text (moment_at s.start) (in_window s.start (let a = is.starts in omega (arith, a)))

length_read : (s : Show) → IsShow s → duration_in (duration_text (900 * s.quarters)) ≡ Some (900 * s.quarters)
length_read s is = duration_in-duration_text (900 * s.quarters) (in_clock s.quarters is.most)

pub event_is : (s : Show) → IsShow s → event_of (show_item s) ≡ show_event s
event_is s is = rw (start_read s is, length_read s is) refl

-- ---- the fields of an item

name_long : (s : Show) → IsShow s → (5 ≤ length (codes "Show " ++ decimal s.title)) × (length (codes "Show " ++ decimal s.title) ≤ 10)
name_long s is =
    let a = number_short s.title (let t = is.title in omega (arith, t)) in
    let b = length-append (codes "Show ") (decimal s.title) in
    (omega (arith, b), omega (arith, a, b))

pub size_within : (text : List ℕ) → (length text ≤ coded_size text) × (coded_size text ≤ 1 + length text)
size_within text = elim (cases_Bool (all_plain text)) [
  | inl e ↦ rw e (omega arith, omega arith)
  | inr e ↦ rw e (omega arith, omega arith)
]

pub not_above : (n m : ℕ) → m ≤ n → nat_lt n m ≡ false
not_above n m le = grind (arith, nat_tests)

pub same_number : (n m : ℕ) → n ≡ m → (n == m) ≡ true
same_number n m e = grind (arith, nat_tests)

pub other_number : (n m : ℕ) → n < m → (n == m) ≡ false
other_number n m lt = grind (arith, nat_tests)

-- the shows that start on a day
abbrev pub IsOn : ℕ → Show → Type 0
IsOn day s = s.start / 96 ≡ day

midnight_is : (day q : ℕ) → q / 96 ≡ day → midnight (moment_at q) ≡ moment_at (96 * day)
midnight_is day q on = let a : (4257187200 + 900 * q) / 86400 ≡ 49273 + q / 96 = omega arith in omega (arith, a, on)

fields_fine : (day : ℕ) (s : Show) → IsShow s → IsOn day s → field_fault (Some (moment_at (96 * day))) (show_item s) ≡ None
fields_fine day s is on =
    let t = moment_at s.start in
    let d = 900 * s.quarters in
    let some = is.some in
    let most = is.most in
    let starts = is.starts in
    let long = name_long s is in
    let size = size_within (codes "Show " ++ decimal s.title) in
    let lasts : is_outside 1 86399 d ≡ false = not_outside 1 86399 d (omega (arith, some)) (omega (arith, most)) in
    let window : nat_lt (65536 * 86400) (t + d) ≡ false = not_above (65536 * 86400) (t + d) (omega (arith, starts, most)) in
    let same : (midnight t == moment_at (96 * day)) ≡ true = same_number (midnight t) (moment_at (96 * day)) (midnight_is day s.start on) in
    let named : is_outside 1 100 (coded_size (codes "Show " ++ decimal s.title)) ≡ false = not_outside 1 100 (coded_size (codes "Show " ++ decimal s.title)) (omega (arith, long, size)) (omega (arith, long, size)) in
    rw (start_read s is, length_read s is, lasts, window, same, named) refl

both_false : (b : Bool) → (b && false) ≡ false
both_false true = refl
both_false false = refl

coded_short : (text : List ℕ) → length (coded_text text) ≤ 1 + length text
coded_short text = elim (cases_Bool (all_plain text)) [
  | inl e ↦ rw e (omega arith)
  | inr e ↦ rw e (omega arith)
]

-- ---- the shows before

-- shows that end before this one starts, and have smaller ids
abbrev pub EndsBefore : Show → Show → Type 0
EndsBefore s b = (b.id < s.id) × (b.start + b.quarters ≤ s.start) × (1 ≤ b.quarters)

chain_before : (id start : ℕ) (before : List Show) (s : Show) (more : List Show) → IsChain id start (before ++ s ∷ more)
    → (id ≤ s.id) × (start ≤ s.start) × IsShow s × AllByRecursion (EndsBefore s) before
chain_before id start [] s more (i, t, is, rest) = (omega (arith, i), omega (arith, t), is, tt)
chain_before id start (b ∷ bs) s more (i, t, is, rest) =
    let (j, u, ok, all) = chain_before (id + 1) (start + b.quarters) bs s more rest in
    let some = is.some in
    (omega (arith, j), omega (arith, u), ok, ((omega (arith, i, j), omega (arith, t, u), some), all))

pub chain_front : (id start : ℕ) (before more : List Show) → IsChain id start (before ++ more) → IsChain id start before
chain_front id start [] more h = tt
chain_front id start (b ∷ bs) more (i, t, is, rest) = (i, t, is, chain_front (id + 1) (start + b.quarters) bs more rest)

-- none is in the way
apart_from : (s b : Show) → EndsBefore s b → (not (b.id == s.id) && share_instant (show_event b) (show_event s)) ≡ false
apart_from s b (i, t, q) =
    let other : (b.id == s.id) ≡ false = other_number b.id s.id i in
    let past : nat_lt (moment_at s.start) (moment_at b.start + 900 * b.quarters) ≡ false = not_above (moment_at s.start) (moment_at b.start + 900 * b.quarters) (omega (arith, t)) in
    rw (other, past) (both_false (nat_lt (moment_at b.start) (moment_at s.start + 900 * s.quarters)))

none_found : (s : Show) (before : List Show) → AllByRecursion (EndsBefore s) before
    → find (λ (other : Event). not (other.id == s.id) && share_instant other (show_event s)) (map show_event before) ≡ None
none_found s [] h = refl
none_found s (b ∷ bs) h = rw (apart_from s b h.0) (none_found s bs h.1)

none_same : (s : Show) (before : List Show) → AllByRecursion (EndsBefore s) before → without s.id (map show_event before) ≡ map show_event before
none_same s [] h = refl
none_same s (b ∷ bs) h = rw (other_number b.id s.id h.0.0) (ap (λ (l : List Event). show_event b ∷ l) (none_same s bs h.1))

placed_last : (s : Show) (before : List Show) → AllByRecursion (EndsBefore s) before → placed (show_event s) (map show_event before) ≡ map show_event (before ++ s ∷ [])
placed_last s [] h = refl
placed_last s (b ∷ bs) h =
    let (i, t, q) = h.0 in
    let before : moment_at b.start < moment_at s.start = omega (arith, t, q) in
    let later : nat_le (moment_at s.start) (moment_at b.start) ≡ false = grind (arith, nat_tests, before) in
    rw later (ap (λ (l : List Event). show_event b ∷ l) (placed_last s bs h.1))

-- what is put stands last
pub put_last : (s : Show) (before : List Show) → AllByRecursion (EndsBefore s) before → put (show_event s) (map show_event before) ≡ map show_event (before ++ s ∷ [])
put_last s before h = ap (placed (show_event s)) (none_same s before h) ∙ placed_last s before h

-- ---- blocks

entry_small : (s : Show) → IsShow s → entry_size (show_event s) ≤ 40
unfolding pieces first_pieces
entry_small s is =
    let long = name_long s is in
    let coded = coded_short (codes "Show " ++ decimal s.title) in
    simp length-append (omega (arith, long, coded))

block_is : (q : ℕ) → block_of (moment_at q) ≡ (4730208 + q) / 12
block_is q = omega arith

-- what an event adds to a block
abbrev share_of : ℕ → Event → ℕ
share_of block event = if block_of (start_of event) == block then entry_size event else 0

abbrev share : ℕ → Show → ℕ
share block s = share_of block (show_event s)

-- at most twelve shows start in a block
block_sizes : (block id start : ℕ) (shows : List Show) → IsChain id start shows
    → (block_size block (map show_event shows) ≤ 40 * (12 * (block + 1) - (4730208 + start))) × (block_size block (map show_event shows) ≤ 480)
block_sizes block id start [] h = (omega arith, omega arith)
block_sizes block id start (s ∷ shows) (i, t, is, rest) =
    let (near, all) = block_sizes block (id + 1) (start + s.quarters) shows rest in
    let some = is.some in
    let small = entry_small s is in
    let at = block_is s.start in
    let size = block_size block (map show_event shows) in
    let one : block_size block (map show_event (s ∷ shows)) ≡ share block s + size = sum_by-cons (λ (event : Event). share_of block event) (show_event s) (map show_event shows) in
    elim (cases_Bool (block_of (moment_at s.start) == block)) [
      | inl e ↦ (
          let here : block_of (moment_at s.start) ≡ block = eqb-true (block_of (moment_at s.start)) block e in
          let mine : share block s ≡ entry_size (show_event s) = rw e refl in
          (omega (arith, one, mine, near, all, some, small, at, here, t), omega (arith, one, mine, near, all, some, small, at, here, t))
          )
      | inr e ↦ (
          let none : share block s ≡ 0 = rw e refl in
          (omega (arith, one, none, near, some, t), omega (arith, one, none, all))
          )
    ]

-- ---- the place of an item

place_fine : (s : Show) (before more : List Show) → IsChain 1 0 (before ++ s ∷ more) → place_fault (map show_event before) (show_event s) ≡ None
place_fine s before more h =
    let (i, t, is, ends) = chain_before 1 0 before s more h in
    let whole = before ++ s ∷ [] in
    let chain : IsChain 1 0 whole = chain_front 1 0 whole more (subst (λ (l : List Show). IsChain 1 0 l) (sym (append_assoc before (s ∷ []) more)) h) in
    let few = chain_few 1 0 whole chain in
    let same = length-map whole show_event in
    let count : nat_lt 2000 (length (map show_event whole)) ≡ false = not_above 2000 (length (map show_event whole)) (omega (arith, few, same)) in
    let size : nat_lt 20000 (block_size (block_of (moment_at s.start)) (map show_event whole)) ≡ false =
    not_above 20000 _ (let small = (block_sizes (block_of (moment_at s.start)) 1 0 whole chain).1 in omega (arith, small)) in
    rw (none_found s before ends, put_last s before ends, count, size) refl

item_fine : (day : ℕ) (s : Show) (before more : List Show) → IsOn day s → IsChain 1 0 (before ++ s ∷ more)
    → item_fault (Some (moment_at (96 * day))) (map show_event before) (show_item s) ≡ None
item_fine day s before more on h =
    let is = (chain_before 1 0 before s more h).2 in
    ap (λ (o : Option Field). or_else (option_map fault.Range o) (place_fault (map show_event before) (event_of (show_item s)))) (fields_fine day s is on)
    ∙ ap (place_fault (map show_event before)) (event_is s is)
    ∙ place_fine s before more h

-- ---- a day

day_regroup : (before : List Show) (s : Show) (on more : List Show) → (before ++ s ∷ on) ++ more ≡ ((before ++ s ∷ []) ++ on) ++ more
day_regroup before s on more = ap (λ (l : List Show). l ++ more) (sym (append_assoc before (s ∷ []) on))

first_fine : (day place : ℕ) (events : List Event) (item : Item) (items : List Item) → item_fault (Some day) events item ≡ None
    → day_fault day place events (item ∷ items) ≡ day_fault day (place + 1) (put (event_of item) events) items
first_fine day place events item items e =
    ap (λ (o : Option DayFault). or_else (option_map (λ (f : DayFault). let p : ℕ × DayFault = (place, f) in p) o) (day_fault day (place + 1) (put (event_of item) events) items)) e

pub day_fine : (day place : ℕ) (on before more : List Show) → AllByRecursion (IsOn day) on → IsChain 1 0 (before ++ on ++ more)
    → day_fault (moment_at (96 * day)) place (map show_event before) (map show_item on) ≡ None
day_fine day place [] before more all h = refl
day_fine day place (s ∷ on) before more all h =
    let chain : IsChain 1 0 ((before ++ s ∷ []) ++ on ++ more) = subst (λ (l : List Show). IsChain 1 0 l) (day_regroup before s on more) h in
    let front : IsChain 1 0 (before ++ s ∷ (on ++ more)) = subst (λ (l : List Show). IsChain 1 0 l) (append_assoc before (s ∷ on) more) h in
    let found = chain_before 1 0 before s (on ++ more) front in
    let at = moment_at (96 * day) in
    first_fine at place (map show_event before) (show_item s) (map show_item on) (item_fine day s before (on ++ more) all.0 front)
    ∙ ap (λ (e : Event). day_fault at (place + 1) (put e (map show_event before)) (map show_item on)) (event_is s found.2)
    ∙ ap (λ (l : List Event). day_fault at (place + 1) l (map show_item on)) (put_last s before found.3)
    ∙ day_fine day (place + 1) on (before ++ s ∷ []) more all.1 chain

pub day_puts : (on before more : List Show) → IsChain 1 0 (before ++ on ++ more) → puts (map show_item on) (map show_event before) ≡ map show_event (before ++ on)
day_puts [] before more h = ap (map show_event) (sym (append-nil before))
day_puts (s ∷ on) before more h =
    let chain : IsChain 1 0 ((before ++ s ∷ []) ++ on ++ more) = subst (λ (l : List Show). IsChain 1 0 l) (day_regroup before s on more) h in
    let front : IsChain 1 0 (before ++ s ∷ (on ++ more)) = subst (λ (l : List Show). IsChain 1 0 l) (append_assoc before (s ∷ on) more) h in
    let found = chain_before 1 0 before s (on ++ more) front in
    ap (λ (e : Event). puts (map show_item on) (put e (map show_event before))) (event_is s found.2)
    ∙ ap (puts (map show_item on)) (put_last s before found.3)
    ∙ day_puts on (before ++ s ∷ []) more chain
    ∙ ap (map show_event) (append_assoc before (s ∷ []) on)
