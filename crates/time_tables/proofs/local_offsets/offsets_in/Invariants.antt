use Rattle.std.proofs.Common.{◌≡◌, length}
use Rattle.si_lists.proofs.Lists.{behind}
use Rattle.time_tables.specs.LocalOffsets.{offsets_in}
use Rattle.time_tables.proofs.local_offsets.offsets_in.Given as goal

abbrev pub invariant-loop-rest : goal.invariant-loop-rest
invariant-loop-rest l = offsets_in l.body ≡ behind l.offsets.items (offsets_in l.rest)

abbrev pub decreases-loop-rest : goal.decreases-loop-rest
decreases-loop-rest l = length l.rest
