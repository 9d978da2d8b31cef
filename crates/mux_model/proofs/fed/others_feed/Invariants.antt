use Rattle.std.proofs.Common.{◌≡◌, ◌==◌, take, None}
use Rattle.std.specs.Prelude.{find}
use Rattle.mux_model.specs.declared.mux.RemoteService.{RemoteService}
use Rattle.mux_model.specs.Sound.{remote_services}
use Rattle.mux_model.proofs.fed.others_feed.Given as goal

abbrev pub invariant-loop-other : goal.invariant-loop-other
invariant-loop-other l = find (λ (s : RemoteService). s.service == l.fn.id) (remote_services (take l.other-index l.others)) ≡ None
