-- What the tests of events, and of what tables hold, tell.
use Rattle.std.proofs.Common.{◌≡◌, ℕ, suc, ◌+◌, ◌<◌, ◌≤◌, inl, inr, List, [], ◌∷◌, length, get_or, subst, arith, eqb}
use Rattle.std.specs.Prelude.{sum_by}
use Rattle.std.specs.List.{AllByRecursion}
use Rattle.std.proofs.lemmas.Bool.{cases_Bool}
use Rattle.table_bodies.specs.declared.nit.NitStream.{NitStream}
use Rattle.table_bodies.specs.Nit.{FitsStream, stream_size}
use Rattle.std.proofs.lemmas.List.Sums.{sum_by-cons}
use Rattle.si_lists.proofs.RunFacts.{runs_few}
use Rattle.eit_segments.specs.declared.event.EventAt.{EventAt}
use Rattle.eit_segments.specs.Placement.{start_block, end_at, in_block, AreInOrder}
use Rattle.eit_segments.specs.Schedule.{FitSegments}
use Rattle.eit_segments.proofs.Few.{block_fits}

size_of : EventAt → ℕ
size_of event = event.size

-- events each of which ends before the next one starts are in order
abbrev pub AreAdjacent : List EventAt → ℕ → Type 0
AreAdjacent events n = (k : ℕ) (d : EventAt) → k + 1 < n → end_at (get_or events k d) ≤ (get_or events (k + 1) d).start.0

all_later : (n : ℕ) (events : List EventAt) → ((d : EventAt) → 0 < length events → n ≤ (get_or events 0 d).start.0) → AreAdjacent events (length events)
    → AllByRecursion (λ (later : EventAt). n ≤ later.start.0) events
all_later n [] first next = tt
all_later n (e ∷ events) first next =
    let here : n ≤ e.start.0 = first e (omega arith) in (
      here,
      all_later n events (λ d l. let g : end_at e ≤ (get_or events 0 d).start.0 = next 0 d (omega arith) in omega arith) (λ k d l. shifted e events k d (next (suc k) d (omega arith))),
    )
  where
    shifted : (e : EventAt) (events : List EventAt) (k : ℕ) (d : EventAt) → end_at (get_or (e ∷ events) (suc k) d) ≤ (get_or (e ∷ events) (suc k + 1) d).start.0 → end_at (get_or events k d) ≤ (get_or events (k + 1) d).start.0
    shifted e events k d h = subst (λ (i : ℕ). end_at (get_or events k d) ≤ (get_or (e ∷ events) i d).start.0) (let s : suc k + 1 ≡ suc (k + 1) = omega arith in s) h

pub in_order : (events : List EventAt) → AreAdjacent events (length events) → AreInOrder events
in_order [] next = tt
in_order (e ∷ events) next = (
  all_later (end_at e) events (λ d l. next 0 d (omega arith)) (λ k d l. rest e events k d (next (suc k) d (omega arith))),
  in_order events (λ k d l. rest e events k d (next (suc k) d (omega arith))),
)
  where
    rest : (e : EventAt) (events : List EventAt) (k : ℕ) (d : EventAt) → end_at (get_or (e ∷ events) (suc k) d) ≤ (get_or (e ∷ events) (suc k + 1) d).start.0 → end_at (get_or events k d) ≤ (get_or events (k + 1) d).start.0
    rest e events k d h = subst (λ (i : ℕ). end_at (get_or events k d) ≤ (get_or (e ∷ events) i d).start.0) (let s : suc k + 1 ≡ suc (k + 1) = omega arith in s) h

pub all_at_most : (most : ℕ) (events : List EventAt) → ((k : ℕ) (d : EventAt) → k < length events → (get_or events k d).size ≤ most) → AllByRecursion (λ (event : EventAt). event.size ≤ most) events
all_at_most most [] h = tt
all_at_most most (e ∷ events) h = (h 0 e (omega arith), all_at_most most events (λ k d l. h (suc k) d (omega arith)))

-- of the events of a block there are no more than of all, and they have no more bytes
block_few : (block : ℕ) (events : List EventAt) → length (in_block block events) ≤ length events
block_few block [] = omega arith
block_few block (e ∷ events) = elim (cases_Bool (eqb (start_block e) block)) [
  | inl h ↦ rw h (omega (arith, block_few block events))
  | inr h ↦ rw h (omega (arith, block_few block events))
]

block_bytes : (block : ℕ) (events : List EventAt) → sum_by (λ (event : EventAt). event.size) (in_block block events) ≤ sum_by (λ (event : EventAt). event.size) events
block_bytes block [] = omega arith
block_bytes block (e ∷ events) =
    let all = sum_by-cons (λ (event : EventAt). event.size) e events in
    let some = sum_by-cons (λ (event : EventAt). event.size) e (in_block block events) in
    let rest = block_bytes block events in
    elim (cases_Bool (eqb (start_block e) block)) [
      | inl h ↦ rw h (omega (arith, all, some, rest))
      | inr h ↦ rw h (omega (arith, all, rest))
    ]

pub few_fit : (events : List EventAt) → length events ≤ 8 → FitSegments events
few_fit events few block = runs_few (λ (event : EventAt). event.size) 4078 8 (in_block block events) (omega arith) (omega (arith, few, block_few block events))

pub small_fit : (events : List EventAt) → AllByRecursion (λ (event : EventAt). event.size ≤ 1578) events → sum_by (λ (event : EventAt). event.size) events ≤ 20000 → FitSegments events
small_fit events small bytes block = block_fits block events small (omega (arith, bytes, block_bytes block events))

-- ---- tables

-- a stream that fits, without further descriptors
abbrev pub IsSmallStream : NitStream → Type 0
IsSmallStream s = FitsStream s × (stream_size s ≤ 276)
