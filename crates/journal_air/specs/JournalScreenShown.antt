-- What is shown of the air of a journal (EN 300 468, 5.2).
use Rattle.std.specs.Prelude.{◌≡◌, ℕ, ◌≤◌, List, ◌∷◌, ◌++◌, length, map, slice_range}
use Rattle.std.specs.List.{AllByRecursion}
use Rattle.guide_model.specs.Decoding.{IsKept}
use Rattle.si_time.specs.declared.moment.Moment.{Moment}
use Rattle.mux_model.specs.Fed.{IsNamed, fed_services}
use Rattle.mux_model.specs.declared.mux.Mux.{Mux}
use Rattle.mux_model.specs.Sound.{IsSoundWithIds}
use Rattle.journal_model.specs.declared.step.Entry.{Entry}
use Rattle.journal_model.specs.Steps.{IsStepInWindow}
use Rattle.desk_core.specs.Publications.{publication, swaps}
use Rattle.air_model.specs.Air.{Aired}
use Rattle.journal_air.specs.Published.{number_at, StaysPublished, AreShown}
use Rattle.journal_air.specs.Laws.{HasTypedEdits}

-- A multiplex and a journal as lines give them.
pub record IsAsRead (mux : Mux) (journal : List Entry) : Type 0 where
  -- the multiplex is sound, and its names may be kept
  pub sound : IsSoundWithIds mux
  pub network : IsKept mux.network_name
  pub services : AllByRecursion IsNamed (fed_services mux)
  -- the accepted edits have numbers as wide as their fields, and texts that may be kept
  pub edits : HasTypedEdits journal
  -- each tick is at a moment that can be written
  pub steps : AllByRecursion (λ (e : Entry). IsStepInWindow e.step) journal

-- the numbers of the publications that the swaps of a journal put on air, in order
abbrev pub numbers_on_air : List Entry → List ℕ
numbers_on_air journal = map (λ (swap : ℕ × Moment). swap.0) (swaps journal)

-- Of these packets, which are the air of these cycles of a journal or a front of it, a receiver hears those from the place join on and before
-- the place end: where all packets of a cycle are among them, and after it only packets of cycles of the same publication, it shows
-- that publication.
abbrev pub IsExactIn : Mux → List Entry → ℕ → ℕ → List Aired → List (List ℕ) → Type 0
IsExactIn mux journal join end cycles packets =
    (before : List Aired) (x : Aired) (after : List Aired) → cycles ≡ before ++ x ∷ after → StaysPublished (numbers_on_air journal) join end before x after
    → AreShown mux (publication mux journal (number_at (numbers_on_air journal) (length before))) (slice_range packets join end)

-- so wherever it joins, and wherever it ends
abbrev pub IsExact : Mux → List Entry → List Aired → List (List ℕ) → Type 0
IsExact mux journal cycles packets = (join end : ℕ) → end ≤ length packets → IsExactIn mux journal join end cycles packets
