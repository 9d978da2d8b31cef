use Rattle.std.proofs.Common.{◌≡◌, Some, take}
use Rattle.mux_config.specs.Kinds.{bytes_in, left_of}
use Rattle.mux_config.specs.Taken.{sum_of}
use Rattle.mux_config.proofs.room.left_after.Given as goal

abbrev pub invariant-records : goal.invariant-records
invariant-records l = left_of l.fn.left (sum_of (bytes_in l.fn.room) (take l.i l.fn.records)) ≡ Some l.rest
