use Rattle.std.proofs.Common.{◌≡◌, take, map}
use Rattle.mux_config.specs.Descriptions.{all_of, service_in, sorted, with_parts}
use Rattle.mux_config.proofs.whole.services_of.Given as goal

abbrev pub invariant-records : goal.invariant-records
invariant-records l = l.services.items ≡ map (with_parts l.fn.records) (sorted (all_of service_in (take l.i l.fn.records)))
