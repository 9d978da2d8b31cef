use Rattle.std.proofs.Common.{◌≡◌, take}
use Rattle.mux_config.specs.Descriptions.{all_of, local_in}
use Rattle.mux_config.proofs.whole.offsets_of.Given as goal

abbrev pub invariant-records : goal.invariant-records
invariant-records l = l.offsets ≡ all_of local_in (take l.i l.fn.records)
