-- A desk without its journal, and the journals that it stands for.
use Rattle.std.specs.Prelude.{ℕ, ◌≤◌, List, [], ◌∷◌, ◌++◌}
use Rattle.journal_model.specs.declared.step.Entry.{Entry}
use Rattle.journal_model.specs.declared.step.Step.{Step}
use Rattle.journal_model.specs.declared.step.Outcome.{Outcome}
use Rattle.journal_model.specs.declared.step.Outcome.TheVariants.{Edited, Ticked, Late, Published, Swapped}
use Rattle.desk_core.specs.declared.lean.LeanDesk.{LeanDesk}
use Rattle.desk_core.specs.Desks.{DeskState}
use Rattle.desk_core.specs.Holding.{IsDerived}

-- the desk keeps what a desk with this journal keeps beside it
abbrev pub StandsFor : List Entry → LeanDesk → Type 0
StandsFor journal desk = IsDerived desk.mux journal desk.held

-- the desk with such a journal
abbrev pub stood_for : List Entry → LeanDesk → DeskState
stood_for journal desk = record { mux = desk.mux; entries = journal }

-- one more entry
abbrev pub with_entry : List Entry → ℕ → Step → Outcome → List Entry
with_entry journal who step outcome = journal ++ record { who = who; step = step; outcome = outcome } ∷ []

-- it stands for a journal
abbrev pub IsLean : LeanDesk → Type 0
IsLean desk = (journal : List Entry) × StandsFor journal desk

-- the number of the outcome's publication is at most this
abbrev pub IsNumbered : ℕ → Outcome → Type 0
IsNumbered most (Edited reply) = Unit {0}
IsNumbered most Ticked = Unit {0}
IsNumbered most (Late at) = Unit {0}
IsNumbered most (Published n) = n ≤ most
IsNumbered most (Swapped n at) = n ≤ most
