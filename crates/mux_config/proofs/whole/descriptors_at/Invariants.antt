use Rattle.std.proofs.Common.{◌≡◌, take}
use Rattle.mux_config.specs.Descriptions.{descriptors_at}
use Rattle.mux_config.proofs.whole.descriptors_at.Given as goal

abbrev pub invariant-records : goal.invariant-records
invariant-records l = l.descriptors ≡ descriptors_at l.fn.place (take l.i l.fn.records)
