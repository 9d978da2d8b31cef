use Rattle.std.proofs.Common.{◌≡◌, ◌+◌, drop}
use Rattle.air_model.specs.Laying.{room_of}
use Rattle.air_model.proofs.laying.room_of.Given as goal

abbrev pub invariant-loop-section : goal.invariant-loop-section
invariant-loop-section l = l.bytes + room_of (drop l.section-index l.sections) ≡ room_of l.sections
