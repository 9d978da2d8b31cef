use Rattle.std.proofs.Common.{◌≡◌, ◌++◌, take}
use Rattle.air_model.specs.Planning.{weights_of}
use Rattle.air_model.proofs.planning.put_tables.Given as goal

abbrev pub invariant-loop-table : goal.invariant-loop-table
invariant-loop-table l = l.weights.items ≡ l.fn.weights.items ++ weights_of (take l.table-index l.tables)
