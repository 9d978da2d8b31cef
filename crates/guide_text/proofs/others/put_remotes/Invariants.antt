use Rattle.std.proofs.Common.{◌≡◌, ◌++◌, take, flat_map}
use Rattle.guide_text.specs.Guides.{remote_text}
use Rattle.guide_text.proofs.others.put_remotes.Given as goal

abbrev pub invariant-loop-service : goal.invariant-loop-service
invariant-loop-service l = l.out.items ≡ l.fn.out.items ++ flat_map (remote_text l.details) (take l.service-index l.services)
