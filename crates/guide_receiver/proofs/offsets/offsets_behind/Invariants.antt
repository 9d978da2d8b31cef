use Rattle.std.proofs.Common.{◌≡◌, take}
use Rattle.std.specs.Prelude.{filter_map}
use Rattle.guide_receiver.specs.Latest.{last_of, offsets_in}
use Rattle.guide_receiver.proofs.offsets.offsets_behind.Given as goal

abbrev pub invariant-loop-section : goal.invariant-loop-section
invariant-loop-section l = l.told ≡ last_of (filter_map offsets_in (take l.section-index l.sections))
