use Rattle.std.proofs.Common.{length}
use Rattle.time_tables.proofs.Loops.{Goes}
use Rattle.time_tables.proofs.tot.told_within.Given as goal

abbrev pub invariant-loop-rest : goal.invariant-loop-rest
invariant-loop-rest l = Goes l.bytes l.told.items l.rest

abbrev pub decreases-loop-rest : goal.decreases-loop-rest
decreases-loop-rest l = length l.rest
