-- Events in order: where those of a block begin and end, and which are present and following.
use Rattle.std.proofs.Common.{◌≡◌, ℕ, zero, suc, ◌+◌, ◌-◌, ◌/◌, ◌<◌, ◌≤◌, Bool, true, false, inl, inr, List, [], ◌∷◌, length, take, drop, get_or, Some, None, sym, ap, ◌∙◌, subst, arith, leb, ltb, eqb, ◌&&◌}
use Rattle.std.specs.List.Sorted.{IsNonDecreasingBy}
use Rattle.std.proofs.lemmas.Bool.{le-leb, lt-leb, le-ltb, leb-true, leb-false, ltb-true, ltb-false, eq-eqb, ne_eqb, cases_lt, cases_Bool, and_left, and_right, and_from}
use Rattle.std.proofs.lemmas.List.{get_or_default}
use Rattle.std.proofs.lemmas.List.Elements.{All-from_recursion}
use Rattle.std.proofs.lemmas.List.Folds.{list_any_none, list_any_at}
use Rattle.std.proofs.lemmas.List.Sums.{position_or_len_is, fails_before_first, passes_at_first}
use Rattle.si_lists.proofs.RunFacts.{runs_some}
use Rattle.eit_segments.specs.declared.event.EventAt.{EventAt}
use Rattle.eit_segments.specs.Placement.{start_block, end_at, AreInOrder, in_block, has_event, block_place, next_place, present_at}
use Rattle.eit_segments.specs.Schedule.{last_used, section_runs, block_runs, FitSegments}
use Rattle.eit_segments.proofs.Lists.{position_is, position_none, filter_range, highest_none, highest_is, highest_less}

-- an event ends before the later ones start
pub ends_before : (events : List EventAt) (i j : ℕ) (d : EventAt) → AreInOrder events → i < j → j < length events → end_at (get_or events i d) ≤ (get_or events j d).start.0
ends_before [] i j d order l m = absurd (omega arith)
ends_before (e ∷ events) i zero d order l m = absurd (omega arith)
ends_before (e ∷ events) zero (suc j) d order l m = All-from_recursion (λ (f : EventAt). end_at e ≤ f.start.0) events order.0 j d (omega arith)
ends_before (e ∷ events) (suc i) (suc j) d order l m = ends_before events i j d order.1 (omega arith) (omega arith)

pub starts_rise : (events : List EventAt) → AreInOrder events → IsNonDecreasingBy (λ (e : EventAt). e.start.0) events
starts_rise events order i j d l m = elim (cases_lt i j) [
  | inl b ↦ omega (arith, ends_before events i j d order b m)
  | inr a ↦ let same : i ≡ j = omega arith in omega (arith, ap (λ (k : ℕ). (get_or events k d).start.0) same)
]

pub blocks_rise : (events : List EventAt) → AreInOrder events → IsNonDecreasingBy start_block events
blocks_rise events order i j d l m = divided (get_or events i d).start.0 (get_or events j d).start.0 (starts_rise events order i j d l m)
  where
    divided : (a b : ℕ) → a ≤ b → a / 10800 ≤ b / 10800
    divided a b h = omega arith

-- the events before a block, and those of it and behind it
pub before_place : (block : ℕ) (events : List EventAt) (k : ℕ) (d : EventAt) → k < block_place block events → start_block (get_or events k d) < block
before_place block events k d l = leb-false block (start_block (get_or events k d)) (fails_before_first (λ (e : EventAt). leb block (start_block e)) events k d l)

pub behind_place : (block : ℕ) (events : List EventAt) (k : ℕ) (d : EventAt) → AreInOrder events → block_place block events ≤ k → k < length events → block ≤ start_block (get_or events k d)
behind_place block events k d order l m =
    let first = block_place block events in
    let here : block ≤ start_block (get_or events first d) = leb-true block (start_block (get_or events first d)) (passes_at_first (λ (e : EventAt). leb block (start_block e)) events d (omega arith)) in
    let up : start_block (get_or events first d) ≤ start_block (get_or events k d) = blocks_rise events order first k d l m in
    omega arith

pub place_is : (block : ℕ) (events : List EventAt) (i : ℕ) (d : EventAt) → i ≤ length events → ((k : ℕ) → k < i → start_block (get_or events k d) < block) → (i < length events → block ≤ start_block (get_or events i d)) → block_place block events ≡ i
place_is block events i d le below here =
    position_or_len_is (λ (e : EventAt). leb block (start_block e)) events i d le (λ k l. lt-leb block (start_block (get_or events k d)) (below k l)) (λ l. le-leb block (start_block (get_or events i d)) (here l))

pub place_within : (block : ℕ) (events : List EventAt) → block_place block events ≤ length events
place_within block [] = omega arith
place_within block (e ∷ events) = elim (cases_Bool (leb block (start_block e))) [
  | inl h ↦ rw h (omega arith)
  | inr h ↦ rw h (omega (arith, place_within block events))
]

-- the events of a block are those between two places
pub block_between : (block : ℕ) (events : List EventAt) (d : EventAt) → AreInOrder events → block_place block events ≤ block_place (1 + block) events
    → in_block block events ≡ take (block_place (1 + block) events - block_place block events) (drop (block_place block events) events)
block_between block events d order le =
    let i = block_place block events in
    let j = block_place (1 + block) events in
    filter_range (λ (e : EventAt). eqb (start_block e) block) events i (j - i) d
    (λ k l. let a : start_block (get_or events k d) < block = before_place block events k d l in ne_eqb (start_block (get_or events k d)) block (λ e. omega arith))
    (λ k a b m.
    let low : block ≤ start_block (get_or events k d) = behind_place block events k d order a m in
    let high : start_block (get_or events k d) < 1 + block = before_place (1 + block) events k d (omega arith) in
    eq-eqb (start_block (get_or events k d)) block (omega arith))
    (λ k a m. let high : 1 + block ≤ start_block (get_or events k d) = behind_place (1 + block) events k d order (omega arith) m in ne_eqb (start_block (get_or events k d)) block (λ e. omega arith))

-- the runs of a block are those of the events between its places
pub runs_between : (block from to : ℕ) (events : List EventAt) → AreInOrder events → from ≡ block_place block events → to ≡ block_place (1 + block) events → from ≤ to
    → section_runs (take (to - from) (drop from events)) ≡ block_runs block events
runs_between block from to events order is_from is_to le =
    ap (λ (i : ℕ). section_runs (take (to - i) (drop i events))) is_from ∙ ap (λ (j : ℕ). section_runs (take (j - block_place block events) (drop (block_place block events) events))) is_to
    ∙ ap section_runs (sym (block_between block events (record { start = record { 0 = 0 }; seconds = 0; size = 0 }) order (omega arith)))

pub runs_few : (block : ℕ) (events : List EventAt) → FitSegments events → (0 < length (block_runs block events)) × (length (block_runs block events) ≤ 8)
runs_few block events fit = (runs_some (λ (e : EventAt). e.size) 4078 (in_block block events), fit block)

-- of so many blocks the last with an event: none, or that of an event behind which the others start behind them all
pub used_none : (first many : ℕ) (events : List EventAt) → ((k : ℕ) (d : EventAt) → k < length events → first ≤ start_block (get_or events k d) → start_block (get_or events k d) < first + many → ⊥)
    → last_used first many events ≡ 0
used_none first many events h =
    highest_none (λ (n : ℕ). has_event (first + n) events) many
    (λ n l. list_any_none (λ (e : EventAt). eqb (start_block e) (first + n)) events (λ k d m. ne_eqb (start_block (get_or events k d)) (first + n) (λ e. h k d m (omega arith) (omega arith))))

pub used_is : (first many : ℕ) (events : List EventAt) (i : ℕ) (d : EventAt) → i < length events → first ≤ start_block (get_or events i d) → start_block (get_or events i d) < first + many
    → ((k : ℕ) (d' : EventAt) → k < length events → start_block (get_or events i d) < start_block (get_or events k d') → first + many ≤ start_block (get_or events k d'))
    → last_used first many events ≡ start_block (get_or events i d) - first
used_is first many events i d l low high behind =
    let block = start_block (get_or events i d) in
    highest_is (λ (n : ℕ). has_event (first + n) events) many (block - first) (omega arith)
    (list_any_at (λ (e : EventAt). eqb (start_block e) (first + (block - first))) events i d l (eq-eqb block (first + (block - first)) (omega arith)))
    (λ n a b. list_any_none (λ (e : EventAt). eqb (start_block e) (first + n)) events
    (λ k d' m. ne_eqb (start_block (get_or events k d')) (first + n) (λ e. let g : first + many ≤ start_block (get_or events k d') = behind k d' m (omega arith) in omega arith)))

pub used_nowhere : (first many : ℕ) (events : List EventAt) → AreInOrder events → block_place (first + many) events ≡ 0 → last_used first many events ≡ 0
used_nowhere first many events order e =
    used_none first many events (λ k d l low high. let behind : first + many ≤ start_block (get_or events k d) = behind_place (first + many) events k d order (omega arith) l in omega arith)

-- the event before the place of the block behind them
before_last : (first many n : ℕ) (events : List EventAt) (d : EventAt) → AreInOrder events → n ≡ block_place (first + many) events → 0 < n → n ≤ length events
    → (k : ℕ) (d' : EventAt) → k < length events → start_block (get_or events (n - 1) d) < start_block (get_or events k d') → first + many ≤ start_block (get_or events k d')
before_last first many n events d order e some le k d' l above = elim (cases_lt k n) [
  | inl b ↦
      let up : start_block (get_or events k d') ≤ start_block (get_or events (n - 1) d') = blocks_rise events order k (n - 1) d' (omega arith) (omega arith) in
      let same : start_block (get_or events (n - 1) d') ≡ start_block (get_or events (n - 1) d) = ap start_block (get_or_default events (n - 1) d' d (omega arith)) in
      absurd (omega arith)
  | inr a ↦ behind_place (first + many) events k d' order (omega arith) l
]

pub used_before : (first many n : ℕ) (events : List EventAt) (d : EventAt) → AreInOrder events → n ≡ block_place (first + many) events → 0 < n → n ≤ length events
    → start_block (get_or events (n - 1) d) < first → last_used first many events ≡ 0
used_before first many n events d order e some le below =
    used_none first many events
    (λ k d' l low high. let g : first + many ≤ start_block (get_or events k d') = before_last first many n events d order e some le k d' l (omega arith) in omega arith)

pub used_last : (first many n : ℕ) (events : List EventAt) (d : EventAt) → AreInOrder events → n ≡ block_place (first + many) events → 0 < n → n ≤ length events
    → first ≤ start_block (get_or events (n - 1) d) → last_used first many events ≡ start_block (get_or events (n - 1) d) - first
used_last first many n events d order e some le from =
    used_is first many events (n - 1) d (omega arith) from (before_place (first + many) events (n - 1) d (omega arith)) (before_last first many n events d order e some le)

pub used_less : (first many : ℕ) (events : List EventAt) → 0 < many → last_used first many events < many
used_less first many events some = highest_less (λ (n : ℕ). has_event (first + n) events) many some

-- events before a place and behind it, by a moment
pub before_next : (at : ℕ) (events : List EventAt) (k : ℕ) (d : EventAt) → k < next_place at events → (get_or events k d).start.0 ≤ at
before_next at events k d l = ltb-false at (get_or events k d).start.0 (fails_before_first (λ (e : EventAt). ltb at e.start.0) events k d l)

pub from_next : (at : ℕ) (events : List EventAt) (k : ℕ) (d : EventAt) → AreInOrder events → next_place at events ≤ k → k < length events → at < (get_or events k d).start.0
from_next at events k d order l m =
    let first = next_place at events in
    let here : at < (get_or events first d).start.0 = ltb-true at (get_or events first d).start.0 (passes_at_first (λ (e : EventAt). ltb at e.start.0) events d (omega arith)) in
    let up : (get_or events first d).start.0 ≤ (get_or events k d).start.0 = starts_rise events order first k d l m in
    omega arith

-- only the event before that place can be on
abbrev is_present : ℕ → EventAt → Bool
is_present at e = leb e.start.0 at && ltb at (end_at e)

pub not_behind : (at : ℕ) (events : List EventAt) (k : ℕ) (d : EventAt) → AreInOrder events → next_place at events ≤ k → k < length events → is_present at (get_or events k d) ≡ false
not_behind at events k d order l m =
    and_left (leb (get_or events k d).start.0 at) (ltb at (end_at (get_or events k d))) (lt-leb (get_or events k d).start.0 at (from_next at events k d order l m))

pub not_before : (at : ℕ) (events : List EventAt) (k : ℕ) (d : EventAt) → AreInOrder events → 1 + k < next_place at events → next_place at events ≤ length events → is_present at (get_or events k d) ≡ false
not_before at events k d order l m =
    let next = next_place at events in
    let ended : end_at (get_or events k d) ≤ (get_or events (1 + k) d).start.0 = ends_before events k (1 + k) d order (omega arith) (omega arith) in
    let started : (get_or events (1 + k) d).start.0 ≤ at = before_next at events (1 + k) d l in
    and_right (leb (get_or events k d).start.0 at) (ltb at (end_at (get_or events k d))) (le-ltb at (end_at (get_or events k d)) (omega arith))

pub none_present : (at : ℕ) (events : List EventAt) (d : EventAt) → AreInOrder events → next_place at events ≡ 0 → None ≡ present_at at events
none_present at events d order e = sym (position_none (is_present at) events d (λ k l. not_behind at events k d order (omega arith) l))

pub one_present : (at : ℕ) (events : List EventAt) (d : EventAt) (n : ℕ) → AreInOrder events → n ≡ next_place at events → 0 < n → n ≤ length events → ltb at (end_at (get_or events (n - 1) d)) ≡ true
    → Some (n - 1) ≡ present_at at events
one_present at events d n order e some le on =
    sym (position_is (is_present at) events (n - 1) d (omega arith) (λ k l. not_before at events k d order (omega arith) (omega arith))
    (and_from (leb (get_or events (n - 1) d).start.0 at) (ltb at (end_at (get_or events (n - 1) d))) (le-leb (get_or events (n - 1) d).start.0 at (before_next at events (n - 1) d (omega arith))) on))

pub last_ended : (at : ℕ) (events : List EventAt) (d : EventAt) (n : ℕ) → AreInOrder events → n ≡ next_place at events → 0 < n → n ≤ length events → ltb at (end_at (get_or events (n - 1) d)) ≡ false
    → None ≡ present_at at events
last_ended at events d n order e some le off = sym (position_none (is_present at) events d each)
  where
    each : (k : ℕ) → k < length events → is_present at (get_or events k d) ≡ false
    each k l = elim (cases_lt k (n - 1)) [
      | inl b ↦ not_before at events k d order (omega arith) (omega arith)
      | inr a ↦ elim (cases_lt (n - 1) k) [
        | inl c ↦ not_behind at events k d order (omega arith) l
        | inr c ↦
            let same : n - 1 ≡ k = omega arith in
            subst (λ (i : ℕ). is_present at (get_or events i d) ≡ false) same (and_right (leb (get_or events (n - 1) d).start.0 at) (ltb at (end_at (get_or events (n - 1) d))) off)
      ]
    ]
