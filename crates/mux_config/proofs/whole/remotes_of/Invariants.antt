use Rattle.std.proofs.Common.{◌≡◌, [], take, map}
use Rattle.mux_model.specs.Order.{all_placed}
use Rattle.mux_model.specs.Sound.{has_lower_id}
use Rattle.mux_config.specs.Descriptions.{all_of, remote_of, with_own}
use Rattle.mux_config.proofs.whole.remotes_of.Given as goal

abbrev pub invariant-records : goal.invariant-records
invariant-records l = l.services.items ≡ map (with_own l.fn.records) (all_placed has_lower_id (all_of (remote_of l.fn.stream l.fn.original) (take l.i l.fn.records)) [])
