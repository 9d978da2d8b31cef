-- Sections of one sub-table are apart on air.
use Rattle.std.proofs.Common.{◌≡◌, ℕ, ◌+◌, ◌<◌, ◌≤◌, List, [], ◌∷◌, ◌++◌, Some, length, sym, ap, ◌∙◌, subst, arith, length-append}
use Rattle.std.specs.Prelude.{filter_map, option_map, not}
use Rattle.std.specs.List.{AllByRecursion, prefix_len}
use Rattle.si_lists.proofs.Lists.{all_append, all_map, all_two}
use Rattle.air_model.specs.Packing.{packets_so_far}
use Rattle.version_book.specs.Airings.{AiredTables}
use Rattle.air_timing.specs.declared.pace.Paced.{Paced}
use Rattle.air_timing.specs.declared.timing.Timing.{Timing}
use Rattle.air_timing.specs.Pacing.{Timed, Place, last_of, paced_one, paced_all, timings, HaveBytes}
use Rattle.air_timing.specs.Rate.{gap_at}
use Rattle.air_timing.proofs.Pacing.{begins_first, closed_begins, first_last, so_far_with, so_far_grows, gaps_are_kept}
use Rattle.air_timing.proofs.Rates.{rates_last}
use Rattle.air_model.specs.Air.{Sent, Aired, sections_once, air, airings_of}
use Rattle.air_model.proofs.Airs.{air-push}
use Rattle.cycle_timing.specs.Apart.{TimedAirsAreApart}
use Rattle.cycle_timing.specs.Clock.{Clock}
use Rattle.cycle_timing.specs.Cycle.{sent_at, bursts_of, clock_of, AreTimed}
use Rattle.cycle_timing.specs.OnAir.{OnAir, on_air, cycle_on_air, sections_on_air}
use Rattle.cycle_timing.specs.Planning.{timings_of}
use Rattle.cycle_timing.specs.SubTables.{TableName, name_of, is_name}
use Rattle.air_model.specs.Bursts.{paced_packets}
use Rattle.air_model.proofs.Counted.{length-counted}
use Rattle.cycle_timing.proofs.Airs.{all_from, sent_is}
use Rattle.cycle_timing.proofs.Cycles.{timed, start, order, within, have_bytes, planned_at, sent_once, timings_within, stands}
use Rattle.cycle_timing.proofs.Pairs.{Pairs, pairs_append, pair_at, pairs_of, pairs_chosen}
use Rattle.cycle_timing.proofs.Runs.{after}

-- ---- where timings end and begin

pub after_all : (t : Timed) (n : ℕ) (p : Place) (xs : List ℕ) → HaveBytes t xs → n ≡ packets_so_far p.packing → after n (timings t p xs) ≡ packets_so_far (paced_all t p xs).packing
after_all t n p [] some e = e
after_all t n p (x ∷ xs) some e = after_all t (last_of t p x + 1) (paced_one t p x) xs some.1 (sym (so_far_with t p x some.0))

pub after_grows : (t : Timed) (n : ℕ) (p : Place) (xs : List ℕ) → HaveBytes t xs → n ≡ packets_so_far p.packing → n ≤ after n (timings t p xs)
after_grows t n p [] some e = omega arith
after_grows t n p (x ∷ xs) some e =
    let g = so_far_grows t p x some.0 in
    let s = so_far_with t p x some.0 in
    let r = after_grows t (last_of t p x + 1) (paced_one t p x) xs some.1 (sym s) in
    omega arith

-- each ends before the packets after them all
pub ended : (t : Timed) (n : ℕ) (p : Place) (xs : List ℕ) → HaveBytes t xs → AllByRecursion (λ (s : Timing). s.last + 1 ≤ after n (timings t p xs)) (timings t p xs)
ended t n p [] some = tt
ended t n p (x ∷ xs) some =
    (after_grows t (last_of t p x + 1) (paced_one t p x) xs some.1 (sym (so_far_with t p x some.0)), ended t (last_of t p x + 1) (paced_one t p x) xs some.1)

-- and none begins before those that are closed
pub begun : (t : Timed) (n : ℕ) (p : Place) (xs : List ℕ) → n ≤ p.packing.closed → AllByRecursion (λ (s : Timing). n ≤ s.first) (timings t p xs)
begun t n p [] h = tt
begun t n p (x ∷ xs) h =
    let b = begins_first t p x in
    let c = closed_begins t p.packing x in
    let l = first_last t p x in
    (omega arith, begun t n (paced_one t p x) xs (omega arith))

-- ---- a cycle

abbrev AreFar : ℕ → OnAir → OnAir → Type 0
AreFar gap one two = name_of one.sent ≡ name_of two.sent → one.last + 1 + gap ≤ two.first

module _ (rate : ℕ) (past : List AiredTables) (a : AiredTables) where
  abbrev once : List Sent
  once = sections_once past a

  -- sections with one name are of one sub-table
  table_is : (c : Clock) (t : Timing) (s : Sent) → t.section < length once → sent_at rate past c a t ≡ Some s
      → (timed rate past a).table t.section ≡ prefix_len (λ (other : Sent). not (is_name (name_of s) (name_of other))) once
  table_is c t s l e =
      let o = sent_once rate past a c t l in
      let same : o.sent ≡ s = (let f : Some o.sent ≡ Some s = sym o.are ∙ e in let r : o.sent ≡ s = cc in r) in
      ap (λ (p : Paced). p.table) (planned_at once t.section o.own o.got)
      ∙ ap (λ (n : TableName). prefix_len (λ (other : Sent). not (is_name n (name_of other))) once) (o.alike.name ∙ ap name_of same)

  abbrev IsFar : Timing → Timing → Type 0
  IsFar one two = (timed rate past a).table one.section ≡ (timed rate past a).table two.section → one.last + 1 + gap_at rate ≤ two.first

  far : Pairs IsFar (timings_of rate past a)
  far = pairs_of IsFar (timings_of rate past a) (gaps_are_kept (timed rate past a) (start rate past a) (order rate past a))

  pub cycle_far : (n : ℕ) (c : Clock) → Pairs (AreFar (gap_at rate)) (filter_map (λ (t : Timing). option_map (on_air rate n c t) (sent_at rate past c a t)) (timings_of rate past a))
  cycle_far n c = pairs_chosen (λ (t : Timing). t.section < length once) IsFar (AreFar (gap_at rate)) (λ (t : Timing). option_map (on_air rate n c t) (sent_at rate past c a t)) each (timings_of rate past a) (timings_within rate past a) far
    where
      each : (one two : Timing) (x y : OnAir) → one.section < length once → two.section < length once → IsFar one two → option_map (on_air rate n c one) (sent_at rate past c a one) ≡ Some x
          → option_map (on_air rate n c two) (sent_at rate past c a two) ≡ Some y → AreFar (gap_at rate) x y
      each one two x y l m h e f same =
          let o = sent_once rate past a c one l in
          let u = sent_once rate past a c two m in
          let x_is = sent_is rate n c one (sent_at rate past c a one) o.sent x o.are e in
          let y_is = sent_is rate n c two (sent_at rate past c a two) u.sent y u.are f in
          let names : name_of o.sent ≡ name_of u.sent = ap (λ (s : OnAir). name_of s.sent) x_is ∙ same ∙ sym (ap (λ (s : OnAir). name_of s.sent) y_is) in
          let g = h (table_is c one o.sent l o.are ∙ ap (λ (n : TableName). prefix_len (λ (other : Sent). not (is_name n (name_of other))) once) names ∙ sym (table_is c two u.sent m u.are)) in
          let last = ap (λ (s : OnAir). s.last) x_is in
          let first = ap (λ (s : OnAir). s.first) y_is in
          omega arith

  -- the packets of the cycle
  pub cycle_size : (c : Clock) → length (paced_packets (bursts_of (sent_at rate past c a) (timings_of rate past a))) ≡ after 0 (timings_of rate past a)
  cycle_size c = (stands rate past a c [] []).size

  abbrev pub Inside : ℕ → OnAir → Type 0
  Inside n s = (n + gap_at rate ≤ s.first) × (s.last + 1 ≤ n + after 0 (timings_of rate past a))

  pub inside : (n : ℕ) (c : Clock) → AllByRecursion (Inside n) (filter_map (λ (t : Timing). option_map (on_air rate n c t) (sent_at rate past c a t)) (timings_of rate past a))
  inside n c =
      let ts = timings_of rate past a in
      let e = ended (timed rate past a) 0 (start rate past a) (order rate past a) (have_bytes rate past a (order rate past a) (within rate past a)) in
      let b = begun (timed rate past a) (gap_at rate) (start rate past a) (order rate past a) (omega arith) in
      let both = all_two (λ (s : Timing). s.last + 1 ≤ after 0 ts) (λ (s : Timing). gap_at rate ≤ s.first) (λ (s : Timing). (s.last + 1 ≤ after 0 ts) × (gap_at rate ≤ s.first)) (λ s h k. (h, k)) ts e b in
      let all = all_two (λ (s : Timing). (s.last + 1 ≤ after 0 ts) × (gap_at rate ≤ s.first)) (λ (s : Timing). s.section < length once)
      (λ (s : Timing). (s.last + 1 ≤ after 0 ts) × (gap_at rate ≤ s.first) × (s.section < length once)) (λ s h k. (h.0, h.1, k)) ts both (timings_within rate past a) in
      all_from (λ (s : Timing). (s.last + 1 ≤ after 0 ts) × (gap_at rate ≤ s.first) × (s.section < length once)) (Inside n) (λ (t : Timing). option_map (on_air rate n c t) (sent_at rate past c a t)) each ts all
    where
      each : (t : Timing) (y : OnAir) → (t.last + 1 ≤ after 0 (timings_of rate past a)) × (gap_at rate ≤ t.first) × (t.section < length once) → option_map (on_air rate n c t) (sent_at rate past c a t) ≡ Some y → Inside n y
      each t y h e =
          let o = sent_once rate past a c t h.2 in
          let y_is = sent_is rate n c t (sent_at rate past c a t) o.sent y o.are e in
          let h0 = h.0 in
          let h1 = h.1 in
          subst (Inside n) y_is (omega arith, omega arith)

-- ---- an air

pub air_next : (rate : ℕ) (before : List Aired) (x : Aired) (xs : List Aired) → AreTimed rate before (x ∷ xs) → length (air (before ++ x ∷ [])) ≡ length (air before) + after 0 (timings_of rate (airings_of before) x.airing)
air_next rate before x xs h =
    let c = clock_of rate before x.airing in
    let past = airings_of before in
    let size = cycle_size rate past x.airing c in
    omega (arith, ap length (air-push before x), length-append (air before) x.packets, ap length h.0, length-counted (air before) (paced_packets (bursts_of (sent_at rate past c x.airing) (timings_of rate past x.airing))))

-- later cycles begin later
pub later_begin : (rate n : ℕ) (before xs : List Aired) → AreTimed rate before xs → n ≤ length (air before) → AllByRecursion (λ (s : OnAir). n + gap_at rate ≤ s.first) (sections_on_air rate before xs)
later_begin rate n before [] h l = tt
later_begin rate n before (x ∷ xs) h l =
    let next = air_next rate before x xs h in
    all_append (λ (s : OnAir). n + gap_at rate ≤ s.first) (cycle_on_air rate before x.airing) (sections_on_air rate (before ++ x ∷ []) xs)
    (all_map _ (λ (s : OnAir). n + gap_at rate ≤ s.first) (λ s i. (let f = i.0 in omega arith)) (cycle_on_air rate before x.airing) (inside rate (airings_of before) x.airing (length (air before)) (clock_of rate before x.airing)))
    (later_begin rate n (before ++ x ∷ []) xs h.1 (omega arith))

air_far : (rate : ℕ) (before xs : List Aired) → AreTimed rate before xs → Pairs (AreFar (gap_at rate)) (sections_on_air rate before xs)
air_far rate before [] h = tt
air_far rate before (x ∷ xs) h =
    let next = air_next rate before x xs h in
    let rest = sections_on_air rate (before ++ x ∷ []) xs in
    let later = later_begin rate (length (air (before ++ x ∷ []))) (before ++ x ∷ []) xs h.1 (omega arith) in
    pairs_append (AreFar (gap_at rate)) (cycle_on_air rate before x.airing) rest
    (cycle_far rate (airings_of before) x.airing (length (air before)) (clock_of rate before x.airing)) (air_far rate (before ++ x ∷ []) xs h.1)
    (all_map _ (λ (s : OnAir). AllByRecursion (AreFar (gap_at rate) s) rest)
    (λ s i. all_map (λ (u : OnAir). length (air (before ++ x ∷ [])) + gap_at rate ≤ u.first) (AreFar (gap_at rate) s) (λ u f same. (let l = i.1 in omega arith)) rest later)
    (cycle_on_air rate before x.airing) (inside rate (airings_of before) x.airing (length (air before)) (clock_of rate before x.airing)))

pub timed_airs_are_apart : TimedAirsAreApart
timed_airs_are_apart rate xs h before between after one two e same =
    let far = pair_at (AreFar (gap_at rate)) (sections_on_air rate [] xs) before between after one two (air_far rate [] xs h) e same in
    let lasts = (rates_last rate).gap in
    record { later = omega arith; gap = omega arith }
