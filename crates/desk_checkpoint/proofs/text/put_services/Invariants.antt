use Rattle.std.proofs.Common.{◌≡◌, ◌++◌, take, flat_map}
use Rattle.mux_model.specs.Fed.{fed_services}
use Rattle.desk_checkpoint.specs.Text.{service_text}
use Rattle.desk_checkpoint.proofs.text.put_services.Given as goal

abbrev pub invariant-loop-guide : goal.invariant-loop-guide
invariant-loop-guide l = l.out.items ≡ l.fn.out.items ++ flat_map (service_text l.clears (fed_services l.mux)) (take l.guide-index l.guides)
