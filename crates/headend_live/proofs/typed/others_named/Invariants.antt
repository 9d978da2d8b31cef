use Rattle.std.proofs.Common.{take}
use Rattle.std.specs.List.{AllByRecursion}
use Rattle.guide_model.specs.Decoding.{IsKept}
use Rattle.mux_model.specs.declared.mux.Other.{Other}
use Rattle.mux_model.specs.declared.mux.RemoteService.{RemoteService}
use Rattle.headend_live.proofs.typed.others_named.Given as goal

abbrev pub invariant-loop-other : goal.invariant-loop-other
invariant-loop-other l = record {
  all : AllByRecursion (λ (o : Other). AllByRecursion (λ (s : RemoteService). IsKept s.provider × IsKept s.name) o.services) (take l.other-index l.others);
}
