use Rattle.std.proofs.Common.{◌≡◌, is_some, length}
use Rattle.table_bodies.specs.Entries.{descriptors_in}
use Rattle.table_bodies.proofs.entry.are_descriptors.Given as goal

-- the rest decides
abbrev pub invariant-loop-rest : goal.invariant-loop-rest
invariant-loop-rest l = is_some (descriptors_in l.bytes) ≡ is_some (descriptors_in l.rest)

abbrev pub decreases-loop-rest : goal.decreases-loop-rest
decreases-loop-rest l = length l.rest
