-- The sections of a schedule have its events, each once and in order.
use Rattle.std.proofs.Common.{◌≡◌, ℕ, zero, suc, ◌+◌, ◌-◌, ◌*◌, ◌/◌, ◌%◌, ◌<◌, ◌≤◌, Bool, true, false, inl, inr, List, [], ◌∷◌, ◌++◌, length, map, flat_map, take, drop, get_or, refl, sym, ap, ap₂, ◌∙◌, subst, arith, eqb, leb, ltb, ◌&&◌, append_assoc}
use Rattle.std.specs.List.{AllByRecursion, range_with_len}
use Rattle.std.proofs.Math.Seq.{take-append_seam, drop-append_seam}
use Rattle.std.proofs.lemmas.Bool.{cases_Bool, cases_lt, cond-true, cond-false, eq-eqb, le-leb, lt-leb, lt-ltb, le-ltb, and_left, and_right, and_from}
use Rattle.std.proofs.lemmas.List.{drop-drop, take-append-drop, append_cancel_right}
use Rattle.std.proofs.lemmas.List.Concat.{flat_map-append}
use Rattle.std.proofs.lemmas.List.Folds.{flat_map-map, list_any_at}
use Rattle.guide_limits.specs.Events.{block_of}
use Rattle.si_lists.proofs.RunFacts.{are_longest}
use Rattle.eit_segments.specs.declared.event.EventAt.{EventAt}
use Rattle.eit_segments.specs.Placement.{AreInOrder, start_block, in_block, has_event, block_place}
use Rattle.eit_segments.specs.Schedule.{CanBePlaced, highest, block_runs, sections_from, segment_sections, last_used, last_number, table_sections, schedule_of}
use Rattle.eit_segments.specs.Laws.{events_of, scheduled, SegmentsHaveRuns, SchedulesHaveEvents}
use Rattle.eit_segments.proofs.Lists.{filter_range}
use Rattle.eit_segments.proofs.Order.{before_place, behind_place, place_is, place_within, block_between, used_less}
use Rattle.eit_segments.proofs.Few.{filter_all}

no_event : EventAt
no_event = record { start = record { 0 = 0 }; seconds = 0; size = 0 }

abbrev all_of : {X : Type 0} → List (List X) → List X
all_of runs = flat_map (λ run. run) runs

-- sections of runs whose events stand from a place on have these runs
sections_have : (table last segment_last number from : ℕ) (runs : List (List EventAt)) (events rest : List EventAt) → drop from events ≡ all_of runs ++ rest
    → map (events_of events) (sections_from table last segment_last number from runs) ≡ runs
sections_have table last segment_last number from [] events rest e = refl
sections_have table last segment_last number from (run ∷ runs) events rest e =
    let behind = all_of runs ++ rest in
    let whole : drop from events ≡ run ++ behind = e ∙ append_assoc run (all_of runs) rest in
    let here : take (from + length run - from) (drop from events) ≡ run =
    ap (λ (n : ℕ). take n (drop from events)) (let s : from + length run - from ≡ length run = omega arith in s) ∙ ap (take (length run)) whole ∙ take-append_seam run behind in
    let next : drop (from + length run) events ≡ behind = sym (drop-drop (length run) from events) ∙ ap (drop (length run)) whole ∙ drop-append_seam run behind in
    ap₂ (λ (a : List EventAt) (b : List (List EventAt)). a ∷ b) here (sections_have table last segment_last (1 + number) (from + length run) runs events rest next)

-- the events from the place of a block on
abbrev from_block : ℕ → List EventAt → List EventAt
from_block block events = drop (block_place block events) events

places_rise : (a b : ℕ) (events : List EventAt) → AreInOrder events → a ≤ b → block_place a events ≤ block_place b events
places_rise a b events order le = elim (cases_lt (block_place b events) (block_place a events)) [
  | inl l ↦
      let low = before_place a events (block_place b events) no_event l in
      let high = behind_place b events (block_place b events) no_event order (omega arith) (omega (arith, l, place_within a events)) in
      absurd (omega (arith, low, high, le))
  | inr l ↦ l
]

-- the events of a block, and behind them those from the next block on
block_split : (block : ℕ) (events : List EventAt) → AreInOrder events → in_block block events ++ from_block (1 + block) events ≡ from_block block events
block_split block events order =
    let i = block_place block events in
    let j = block_place (1 + block) events in
    let up : i ≤ j = places_rise block (1 + block) events order (omega arith) in
    ap (λ (l : List EventAt). l ++ drop j events) (block_between block events no_event order up)
    ∙ ap (λ (l : List EventAt). take (j - i) (drop i events) ++ l) (ap (λ (n : ℕ). drop n events) (let e : j ≡ i + (j - i) = omega (arith, up) in e) ∙ sym (drop-drop (j - i) i events))
    ∙ take-append-drop (j - i) (drop i events)

-- the runs of a block join to its events
runs_join : (block : ℕ) (events : List EventAt) → AllByRecursion (λ (event : EventAt). event.size ≤ 4078) events → all_of (block_runs block events) ≡ in_block block events
runs_join block events small =
    (are_longest (λ (event : EventAt). event.size) 4078 (in_block block events) (filter_all (λ (event : EventAt). event.size ≤ 4078) (λ (event : EventAt). eqb (start_block event) block) events small)).join

pub segments_have_runs : SegmentsHaveRuns
segments_have_runs table last segment block events placed =
    sections_have table last (8 * segment + (length (block_runs block events) - 1)) (8 * segment) (block_place block events) (block_runs block events) events (from_block (1 + block) events)
    (sym (block_split block events placed.order) ∙ ap (λ (l : List EventAt). l ++ from_block (1 + block) events) (sym (runs_join block events placed.small)))

segment_events : (table last segment block : ℕ) (events : List EventAt) → CanBePlaced events → flat_map (events_of events) (segment_sections table last segment block events) ≡ in_block block events
segment_events table last segment block events placed =
    sym (flat_map-map (λ (run : List EventAt). run) (events_of events) (segment_sections table last segment block events))
    ∙ ap (λ (runs : List (List EventAt)). all_of runs) (segments_have_runs table last segment block events placed) ∙ runs_join block events placed.small

-- ---- so many segments, and tables

segments_events : (table last first a k : ℕ) (events : List EventAt) → CanBePlaced events
    → flat_map (events_of events) (flat_map (λ segment. segment_sections table last segment (first + segment) events) (range_with_len a k)) ++ from_block (first + (a + k)) events ≡ from_block (first + a) events
segments_events table last first a zero events placed = ap (λ (b : ℕ). from_block b events) (let e : first + (a + 0) ≡ first + a = omega arith in e)
segments_events table last first a (suc k) events placed =
    let f = λ (segment : ℕ). segment_sections table last segment (first + segment) events in
    let more = flat_map f (range_with_len (a + 1) k) in
    let rest = from_block (first + (a + suc k)) events in
    let behind : flat_map (events_of events) more ++ rest ≡ from_block (1 + (first + a)) events =
    ap (λ (b : ℕ). flat_map (events_of events) more ++ from_block b events) (let e : first + (a + suc k) ≡ first + (a + 1 + k) = omega arith in e)
    ∙ segments_events table last first (a + 1) k events placed ∙ ap (λ (b : ℕ). from_block b events) (let e : first + (a + 1) ≡ 1 + (first + a) = omega arith in e) in
    ap (λ (l : List EventAt). l ++ rest) (flat_map-append (events_of events) (f a) more) ∙ append_assoc (flat_map (events_of events) (f a)) (flat_map (events_of events) more) rest
    ∙ ap₂ (λ (x y : List EventAt). x ++ y) (segment_events table last a (first + a) events placed) behind ∙ block_split (first + a) events placed.order

-- above the highest number that passes none does
above_highest : (test : ℕ → Bool) (n k : ℕ) → highest test n < k → k < n → test k ≡ false
above_highest test zero k l m = absurd (omega arith)
above_highest test (suc n) k l m = elim (cases_Bool (test n)) [
  | inl h ↦ let e : highest test (suc n) ≡ n = cond-true (test n) n (highest test n) h in absurd (omega (arith, e, l, m))
  | inr h ↦
      let e : highest test (suc n) ≡ highest test n = cond-false (test n) n (highest test n) h in
      elim (cases_lt k n) [
        | inl b ↦ above_highest test n k (omega (arith, e, l)) b
        | inr b ↦ let same : n ≡ k = omega (arith, b, m) in subst (λ (x : ℕ). test x ≡ false) same h
      ]
]

-- behind the last block with an event the places are one
same_place : (first many from : ℕ) (events : List EventAt) → AreInOrder events → last_used first many events < from → from ≤ many → block_place (first + from) events ≡ block_place (first + many) events
same_place first many from events order used le =
    place_is (first + from) events (block_place (first + many) events) no_event (place_within (first + many) events)
    (λ k l. below k (before_place (first + many) events k no_event l) (omega (arith, l, place_within (first + many) events)))
    (λ l. let high : first + many ≤ start_block (get_or events (block_place (first + many) events) no_event) = behind_place (first + many) events (block_place (first + many) events) no_event order (omega arith) l in omega (arith, high, le))
  where
    below : (k : ℕ) → start_block (get_or events k no_event) < first + many → k < length events → start_block (get_or events k no_event) < first + from
    below k high l = elim (cases_lt (start_block (get_or events k no_event)) (first + from)) [
      | inl b ↦ b
      | inr b ↦
          let block = start_block (get_or events k no_event) in
          let n = block - first in
          let none : has_event (first + n) events ≡ false = above_highest (λ (m : ℕ). has_event (first + m) events) many n (omega (arith, b, used)) (omega (arith, b, high)) in
          let some : has_event (first + n) events ≡ true = list_any_at (λ (event : EventAt). eqb (start_block event) (first + n)) events k no_event l (eq-eqb block (first + n) (omega (arith, b))) in
          absurd (let e : true ≡ false = sym some ∙ none in cc)
    ]

table_events : (table first : ℕ) (events : List EventAt) → CanBePlaced events → flat_map (events_of events) (table_sections table first events) ++ from_block (first + 32) events ≡ from_block first events
table_events table first events placed =
    let used = last_used first 32 events in
    let last = last_number first events in
    let less : used < 32 = used_less first 32 events (omega arith) in
    let same : block_place (first + (0 + (used + 1))) events ≡ block_place (first + 32) events =
    ap (λ (n : ℕ). block_place (first + n) events) (let e : 0 + (used + 1) ≡ used + 1 = omega arith in e) ∙ same_place first 32 (used + 1) events placed.order (omega arith) (omega (arith, less)) in
    ap (λ (n : ℕ). flat_map (events_of events) (table_sections table first events) ++ drop n events) (sym same)
    ∙ segments_events table last first 0 (used + 1) events placed ∙ ap (λ (b : ℕ). from_block b events) (let e : first + 0 ≡ first = omega arith in e)

tables_events : (first a k : ℕ) (events : List EventAt) → CanBePlaced events
    → flat_map (events_of events) (flat_map (λ table. table_sections (80 + table) (first + 32 * table) events) (range_with_len a k)) ++ from_block (first + 32 * (a + k)) events ≡ from_block (first + 32 * a) events
tables_events first a zero events placed = ap (λ (b : ℕ). from_block b events) (let e : first + 32 * (a + 0) ≡ first + 32 * a = omega arith in e)
tables_events first a (suc k) events placed =
    let g = λ (table : ℕ). table_sections (80 + table) (first + 32 * table) events in
    let more = flat_map g (range_with_len (a + 1) k) in
    let rest = from_block (first + 32 * (a + suc k)) events in
    let behind : flat_map (events_of events) more ++ rest ≡ from_block (first + 32 * a + 32) events =
    ap (λ (b : ℕ). flat_map (events_of events) more ++ from_block b events) (let e : first + 32 * (a + suc k) ≡ first + 32 * (a + 1 + k) = omega arith in e)
    ∙ tables_events first (a + 1) k events placed ∙ ap (λ (b : ℕ). from_block b events) (let e : first + 32 * (a + 1) ≡ first + 32 * a + 32 = omega arith in e) in
    ap (λ (l : List EventAt). l ++ rest) (flat_map-append (events_of events) (g a) more) ∙ append_assoc (flat_map (events_of events) (g a)) (flat_map (events_of events) more) rest
    ∙ ap (λ (l : List EventAt). flat_map (events_of events) (g a) ++ l) behind ∙ table_events (80 + a) (first + 32 * a) events placed

-- the events of 64 days are those of 512 blocks
days_between : (day : ℕ) (events : List EventAt) → day % 86400 ≡ 0 → AreInOrder events → scheduled day events ++ from_block (block_of day + 512) events ≡ from_block (block_of day) events
days_between day events midnight order =
    let first = block_of day in
    let i = block_place first events in
    let j = block_place (first + 512) events in
    let up : i ≤ j = places_rise first (first + 512) events order (omega arith) in
    let low = λ (e : EventAt). leb day e.start.0 in
    let high = λ (e : EventAt). ltb e.start.0 (day + 5529600) in
    let is : scheduled day events ≡ take (j - i) (drop i events) =
    filter_range (λ (e : EventAt). low e && high e) events i (j - i) no_event
    (λ k l. and_left (low (get_or events k no_event)) (high (get_or events k no_event)) (lt-leb day (get_or events k no_event).start.0 (before_day day (get_or events k no_event).start.0 midnight (before_place first events k no_event l))))
    (λ k a b m. and_from (low (get_or events k no_event)) (high (get_or events k no_event))
    (le-leb day (get_or events k no_event).start.0 (from_day day (get_or events k no_event).start.0 midnight (behind_place first events k no_event order a m)))
    (lt-ltb (get_or events k no_event).start.0 (day + 5529600) (in_days day (get_or events k no_event).start.0 midnight (before_place (first + 512) events k no_event (omega (arith, b, up))))))
    (λ k a m. and_right (low (get_or events k no_event)) (high (get_or events k no_event))
    (le-ltb (get_or events k no_event).start.0 (day + 5529600) (behind_days day (get_or events k no_event).start.0 midnight (behind_place (first + 512) events k no_event order (omega (arith, a, up)) m)))) in
    ap (λ (l : List EventAt). l ++ drop j events) is
    ∙ ap (λ (l : List EventAt). take (j - i) (drop i events) ++ l) (ap (λ (n : ℕ). drop n events) (let e : j ≡ i + (j - i) = omega (arith, up) in e) ∙ sym (drop-drop (j - i) i events))
    ∙ take-append-drop (j - i) (drop i events)
  where
    before_day : (day s : ℕ) → day % 86400 ≡ 0 → s / 10800 < day / 10800 → s < day
    before_day day s m h = omega arith

    from_day : (day s : ℕ) → day % 86400 ≡ 0 → day / 10800 ≤ s / 10800 → day ≤ s
    from_day day s m h = omega arith

    in_days : (day s : ℕ) → day % 86400 ≡ 0 → s / 10800 < day / 10800 + 512 → s < day + 5529600
    in_days day s m h = omega arith

    behind_days : (day s : ℕ) → day % 86400 ≡ 0 → day / 10800 + 512 ≤ s / 10800 → day + 5529600 ≤ s
    behind_days day s m h = omega arith

pub schedules_have_events : SchedulesHaveEvents
schedules_have_events day events midnight placed =
    let first = block_of day in
    let used = last_used first 512 events in
    let tables = used / 32 + 1 in
    let less : used < 512 = used_less first 512 events (omega arith) in
    let all = flat_map (events_of events) (schedule_of day events) in
    let end : block_place (first + 32 * (0 + tables)) events ≡ block_place (first + 512) events = same_place first 512 (32 * (0 + tables)) events placed.order (omega arith) (omega (arith, less)) in
    let whole : all ++ from_block (first + 512) events ≡ from_block first events =
    ap (λ (n : ℕ). all ++ drop n events) (sym end) ∙ tables_events first 0 tables events placed ∙ ap (λ (b : ℕ). from_block b events) (let e : first + 32 * 0 ≡ first = omega arith in e) in
    append_cancel_right all (scheduled day events) (from_block (first + 512) events) (whole ∙ sym (days_between day events midnight placed.order))
