use Rattle.std.proofs.Common.{◌≡◌, ◌++◌, take}
use Rattle.time_tables.proofs.tot.put_told.Given as goal

abbrev pub invariant-loop-offset : goal.invariant-loop-offset
invariant-loop-offset l = l.told.items ≡ l.fn.told.items ++ take l.offset-index l.offset-items
