use Rattle.std.proofs.Common.{◌≡◌, take, map}
use Rattle.mux_config.specs.Descriptions.{all_of, part_in, with_descriptors}
use Rattle.mux_config.proofs.whole.parts_of.Given as goal

abbrev pub invariant-records : goal.invariant-records
invariant-records l = l.parts ≡ map (with_descriptors l.fn.records l.fn.service) (all_of (part_in l.fn.service) (take l.i l.fn.records))
