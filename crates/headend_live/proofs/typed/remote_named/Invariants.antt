use Rattle.std.proofs.Common.{take}
use Rattle.std.specs.List.{AllByRecursion}
use Rattle.guide_model.specs.Decoding.{IsKept}
use Rattle.mux_model.specs.declared.mux.RemoteService.{RemoteService}
use Rattle.headend_live.proofs.typed.remote_named.Given as goal

abbrev pub invariant-loop-service : goal.invariant-loop-service
invariant-loop-service l = record {
  all : AllByRecursion (λ (s : RemoteService). IsKept s.provider × IsKept s.name) (take l.service-index l.services);
}
