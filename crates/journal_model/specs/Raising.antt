-- Outcomes with the numbers of their publications raised, as where a journal goes on after another.
use Rattle.std.specs.Prelude.{ℕ, ◌+◌, ◌<◌, ◌^◌, List, map}
use Rattle.journal_model.specs.declared.step.Outcome.{Outcome}
use Rattle.journal_model.specs.declared.step.Outcome.TheVariants.{Edited, Ticked, Late, Published, Swapped}
use Rattle.journal_model.specs.declared.step.Entry.{Entry}

-- the raised number has 64 bits
abbrev pub CanBeRaised : ℕ → Outcome → Type 0
CanBeRaised shift (Published n) = shift + n < 2 ^ 64
CanBeRaised shift (Swapped n at) = shift + n < 2 ^ 64
CanBeRaised shift (Edited reply) = Unit {0}
CanBeRaised shift Ticked = Unit {0}
CanBeRaised shift (Late at) = Unit {0}

-- the outcome with the number of its publication raised by the shift
abbrev pub raised : ℕ → Outcome → Outcome
raised shift (Edited reply) = Edited reply
raised shift Ticked = Ticked
raised shift (Late now) = Late now
raised shift (Published n) = Published (shift + n)
raised shift (Swapped n at) = Swapped (shift + n) at

-- the entry with its outcome raised
abbrev pub raised_entry : ℕ → Entry → Entry
raised_entry shift entry = record { who = entry.who; step = entry.step; outcome = raised shift entry.outcome }

-- each entry raised
abbrev pub all_raised : ℕ → List Entry → List Entry
all_raised shift entries = map (raised_entry shift) entries
