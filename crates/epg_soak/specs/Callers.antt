-- What each caller asks for in a whole run of the made load.
use Rattle.std.specs.Prelude.{◌≡◌, ◌≤◌, ℕ, List, [], ◌∷◌, ◌++◌, length, map, replicate}
use Rattle.journal_model.specs.declared.step.Step.TheVariants.{Publish, Swap}
use Rattle.journal_model.specs.declared.step.Entry.{Entry}
use Rattle.journal_model.specs.Steps.{Command, command_of}
use Rattle.desk_core.specs.Journal.{Legal}
use Rattle.turn_lock.specs.Journal.{entries_of}
use Rattle.desk_hall.specs.Turn.{caller_of}
use Rattle.desk_hall.specs.Reads.{commands_by, control_step, edit_step}
use Rattle.epg_soak.specs.WorkloadLoad.{soak_mux, soak_controls, soak_edits}
use Rattle.epg_soak.specs.Journals.{IsSoakJournal, IsCounted}

-- a caller's commands in a journal, in their order
abbrev pub commands_of : ℕ → List Entry → List Command
commands_of who journal = map command_of (entries_of caller_of who journal)

-- Caller 0 is the control, which publishes and swaps twice behind its lines; caller 1 swaps three times; callers 2 and 3 are the feeds.
pub record IsSoakRun (number : ℕ) (journal : List Entry) : Type 0 where
  pub legal : Legal soak_mux journal
  pub control : commands_of 0 journal ≡ commands_by 0 control_step soak_controls ++ (0, Publish) ∷ (0, Swap) ∷ (0, Swap) ∷ []
  pub player : commands_of 1 journal ≡ replicate 3 (1, Swap)
  pub first : commands_of 2 journal ≡ commands_by 2 (edit_step 1) (soak_edits number 1)
  pub second : commands_of 3 journal ≡ commands_by 3 (edit_step 2) (soak_edits number 2)
  pub others : (k : ℕ) → 4 ≤ k → entries_of caller_of k journal ≡ []

-- The journal of such a run has 132 entries; each edit is done, and all are counted.
abbrev pub SoakRunsAreCounted : Type 0
SoakRunsAreCounted =
    (number : ℕ) (journal : List Entry) → IsSoakRun number journal
    → (length journal ≡ 132) × IsSoakJournal number journal × IsCounted number journal
