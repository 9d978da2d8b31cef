use Rattle.std.proofs.Common.{sym, ap, ◌∙◌, subst, take, [], ◌∷◌, ◌++◌}
use Rattle.std.specs.List.{AllByRecursion}
use Rattle.std.proofs.lemmas.List.{take_more}
use Rattle.si_lists.proofs.Lists.{all_push}
use Rattle.mux_model.specs.declared.mux.Other.{Other}
use Rattle.mux_model.proofs.FedFacts.{HasNames}
use Rattle.headend_live.proofs.typed.others_named.Goals as goal

pub loop-other-preserved : goal.loop-other-preserved
loop-other-preserved c =
    let others = c.args.others.now in
    let i = c.loop-other.other-index in
    let o = c.other-item.result in
    let named : Other → Type 0 = λ (o : Other). AllByRecursion HasNames o.services in
    let more = take_more others i o c.loop-other-test.true ∙ ap (λ (y : Other). take i others ++ y ∷ []) (sym c.other-item.is) in
    record { all = subst (AllByRecursion named) (sym more) (all_push named (take i others) o c.loop-other.invariant.all c.other_named.ensures) }
