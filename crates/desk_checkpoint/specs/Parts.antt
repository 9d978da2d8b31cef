-- What a part that was read has, whatever stands before it.
use Rattle.std.specs.Prelude.{◌<◌}
use Rattle.ts_packets.specs.PidCounters.{IsPidCounter}
use Rattle.journal_model.specs.Steps.{IsStepWithin}
use Rattle.desk_checkpoint.specs.declared.part.Part.{Part}
use Rattle.desk_checkpoint.specs.declared.part.Part.TheVariants.{Step as step, Version, Section, Counter, End}

-- a desk may be asked a step; the numbers are in their ranges
abbrev pub IsFitPart : Part → Type 0
IsFitPart (step s) = IsStepWithin s
IsFitPart (Version key version) = version < 32
IsFitPart (Section section) = Unit {0}
IsFitPart (Counter counter) = IsPidCounter counter
IsFitPart End = Unit {0}
