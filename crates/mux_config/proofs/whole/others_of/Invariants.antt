use Rattle.std.proofs.Common.{◌≡◌, [], take, map}
use Rattle.mux_model.specs.Order.{all_placed}
use Rattle.mux_model.specs.Sound.{comes_before}
use Rattle.mux_config.specs.Descriptions.{all_of, other_in, with_remotes}
use Rattle.mux_config.proofs.whole.others_of.Given as goal

abbrev pub invariant-records : goal.invariant-records
invariant-records l = l.others.items ≡ map (with_remotes l.fn.records) (all_placed comes_before (all_of other_in (take l.i l.fn.records)) [])
