-- A whole journal, by the callers that made it.
use Rattle.std.specs.Prelude.{◌≡◌, ◌≢◌, ℕ, false, List, [], ◌∷◌, ◌++◌}
use Rattle.std.specs.List.{AllByRecursion}
use Rattle.mux_model.specs.declared.mux.Mux.{Mux}
use Rattle.journal_model.specs.declared.step.Step.TheVariants.{Publish, Swap}
use Rattle.journal_model.specs.declared.step.Entry.{Entry}
use Rattle.desk_core.specs.Journal.{Legal}
use Rattle.journal_model.specs.Steps.{Command}
use Rattle.desk_core.specs.Publications.{swaps}
use Rattle.journal_air.specs.OnAir.{is_swap}
use Rattle.turn_lock.specs.declared.known.Caller.{Caller}
use Rattle.turn_lock.specs.Journal.{entries_of}
use Rattle.turn_lock.specs.Knowledge.{NotLowest}
use Rattle.desk_hall.specs.Turn.{caller_of}

-- The journal has of each of these callers exactly what it made, and nothing of anyone else.
pub record IsWhole (journal : List Entry) (cs : List (Caller Entry)) : Type 0 where
  pub made : AllByRecursion (λ c. entries_of caller_of c.low journal ≡ c.made) cs
  pub others : (k : ℕ) → NotLowest cs k → entries_of caller_of k journal ≡ []

-- What the journal of a run is, where the control made `final` behind all jobs: each caller has made just what it made, in order, and
-- no one else made anything; the journal is legal and ends with `final`; and its swaps are those of the player's entries and of
-- `final`, for no other caller swapped.
pub record JournalDid (control player : Caller Entry) (feeds : List (Caller Entry)) (final : List Entry) (mux : Mux) (journal : List Entry) : Type 0 where
  pub mine : entries_of caller_of control.low journal ≡ control.made ++ final
  pub each : AllByRecursion (λ c. entries_of caller_of c.low journal ≡ c.made) (player ∷ feeds)
  pub others : (k : ℕ) → NotLowest (control ∷ player ∷ feeds) k → entries_of caller_of k journal ≡ []
  pub legal : Legal mux journal
  pub front : List Entry
  pub ends : journal ≡ front ++ final
  pub swaps_are : swaps journal ≡ swaps (player.made ++ final)

-- a publish and two swaps of a caller
abbrev pub final_commands : ℕ → List Command
final_commands who = (who, Publish) ∷ (who, Swap) ∷ (who, Swap) ∷ []

abbrev pub NoSwaps : List Entry → Type 0
NoSwaps entries = AllByRecursion (λ (e : Entry). is_swap e.step ≡ false) entries

-- a caller other than n has made no swap
abbrev pub SwapsNot : ℕ → Caller Entry → Type 0
SwapsNot n c = c.low ≢ n → NoSwaps c.made
