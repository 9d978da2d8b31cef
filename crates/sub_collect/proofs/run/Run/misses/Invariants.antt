use Rattle.std.proofs.Common.{◌≤◌, length}
use Rattle.sub_collect.proofs.run.Run.misses.Given as goal

abbrev pub invariant-loop-i : goal.invariant-loop-i
invariant-loop-i l = l.i ≤ length l.numbers
