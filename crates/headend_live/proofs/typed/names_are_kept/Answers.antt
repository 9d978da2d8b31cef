use Rattle.std.proofs.Common.{subst}
use Rattle.std.specs.List.{AllByRecursion}
use Rattle.si_lists.proofs.Lists.{all_flat}
use Rattle.guide_model.specs.Decoding.{IsKept}
use Rattle.mux_model.specs.declared.mux.MuxService.{MuxService}
use Rattle.mux_model.specs.declared.mux.Other.{Other}
use Rattle.mux_model.proofs.FedFacts.{HasNames, fed_named}
use Rattle.headend_live.proofs.typed.names_are_kept.Goals as goal

pub returns-clause-services : goal.returns-clause-services
returns-clause-services c =
    let others = subst (AllByRecursion (λ (o : Other). AllByRecursion HasNames o.services)) c.as_slice-2.ensures c.others_named.ensures in
    fed_named c.args.mux.now (
      subst (AllByRecursion (λ (s : MuxService). IsKept s.provider × IsKept s.name)) c.as_slice.ensures c.own_named.ensures,
      all_flat (λ (o : Other). AllByRecursion HasNames o.services) HasNames (λ (o : Other). o.services) (λ o named. named) c.args.mux.now.others others,
    )
