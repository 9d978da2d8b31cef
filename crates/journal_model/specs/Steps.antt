-- Commands, what a desk may be asked, and entries that can be written.
use Rattle.std.specs.Prelude.{ℕ, ◌*◌, ◌<◌, ◌≤◌, List}
use Rattle.std.specs.List.{AllByRecursion}
use Rattle.journal_model.specs.declared.step.Step.{Step}
use Rattle.journal_model.specs.declared.step.Step.TheVariants.{Edit as edit, Tick, Publish, Swap}
use Rattle.journal_model.specs.declared.step.Outcome.{Outcome}
use Rattle.journal_model.specs.declared.step.Outcome.TheVariants.{Edited, Ticked, Late, Published, Swapped}
use Rattle.journal_model.specs.declared.step.Entry.{Entry}
use Rattle.journal_model.specs.declared.control.Control.{Control}
use Rattle.journal_model.specs.declared.control.Control.TheVariants as control
use Rattle.journal_model.specs.Edits.{IsDayWithin, IsTypedEdit}

-- a caller's number and its step
abbrev pub Command : Type 0
Command = ℕ × Step

-- the command of an entry
abbrev pub command_of : Entry → Command
command_of entry = (entry.who, entry.step)

-- an edit of a day has at most 2,000 items, and a tick is at a moment that 16 bits of days can say (EN 300 468, annex C)
abbrev pub IsStepWithin : Step → Type 0
IsStepWithin (edit feed e) = IsDayWithin e
IsStepWithin (Tick at) = at.0 < 65536 * 86400
IsStepWithin Publish = Unit {0}
IsStepWithin Swap = Unit {0}

-- a tick is at a moment that 16 bits of days can say (EN 300 468, annex C)
abbrev pub IsControlWithin : Control → Type 0
IsControlWithin (control.Tick at) = at.0 < 65536 * 86400
IsControlWithin control.Publish = Unit {0}

-- The edit of a step has numbers as wide as their fields, and texts that may be kept; its feed's number has 8 bits.
abbrev pub IsTypedStep : Step → Type 0
IsTypedStep (edit feed e) = (feed ≤ 255) × IsTypedEdit e
IsTypedStep (Tick at) = Unit {0}
IsTypedStep Publish = Unit {0}
IsTypedStep Swap = Unit {0}

-- the moment of an outcome, where it has one, can be written: 16 bits say its day
abbrev pub IsInWindow : Outcome → Type 0
IsInWindow (Edited reply) = Unit {0}
IsInWindow Ticked = Unit {0}
IsInWindow (Late at) = at.0 < 65536 * 86400
IsInWindow (Published n) = Unit {0}
IsInWindow (Swapped n at) = at.0 < 65536 * 86400

-- the moment of a step can be written: it is one that 16 bits of days can say (EN 300 468, annex C)
abbrev pub IsStepInWindow : Step → Type 0
IsStepInWindow (edit feed e) = Unit {0}
IsStepInWindow (Tick at) = at.0 < 65536 * 86400
IsStepInWindow Publish = Unit {0}
IsStepInWindow Swap = Unit {0}

-- the moments of an entry can be written, and those of a journal
pub record IsEntryInWindow (entry : Entry) : Type 0 where
  pub step : IsStepInWindow entry.step
  pub outcome : IsInWindow entry.outcome

abbrev pub AreInWindow : List Entry → Type 0
AreInWindow entries = AllByRecursion IsEntryInWindow entries
