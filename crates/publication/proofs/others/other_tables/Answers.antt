use Rattle.std.proofs.Common.{◌≡◌, ◌≤◌, List, get_or, length, sym, ap, ◌∙◌, subst, arith}
use Rattle.std.proofs.lemmas.List.Elements.{All-from_recursion}
use Rattle.mux_model.specs.declared.mux.Other.{Other}
use Rattle.mux_model.specs.Sound.{IsSoundOther}
use Rattle.publication.specs.Laws.{HasPartsOf}
use Rattle.publication.proofs.PartFacts.{others_have}
use Rattle.publication.proofs.NetworkFacts.{services_few}
use Rattle.publication.proofs.others.other_tables.Goals as goal

pub other_sdt_table-requires-clause-few : goal.other_sdt_table-requires-clause-few
other_sdt_table-requires-clause-few c =
    let mux = c.args.mux.now in
    let i = c.loop-other.other-index in
    let o = c.other-item.result in
    let is : o ≡ get_or mux.others i o = c.other-item.is ∙ ap (λ (os : List Other). get_or os i o) c.as_slice-other-items.ensures in
    subst (λ (p : Other). length p.services ≤ 64) (sym is)
    (All-from_recursion (λ (p : Other). length p.services ≤ 64) mux.others (services_few mux.others c.requires.sound.others.few_services) i o
    (omega (arith, c.loop-other-test.true, ap length c.as_slice-other-items.ensures)))

pub other_sdt_table-requires-clause-sound : goal.other_sdt_table-requires-clause-sound
other_sdt_table-requires-clause-sound c =
    let mux = c.args.mux.now in
    let i = c.loop-other.other-index in
    let o = c.other-item.result in
    let is : o ≡ get_or mux.others i o = c.other-item.is ∙ ap (λ (os : List Other). get_or os i o) c.as_slice-other-items.ensures in
    subst IsSoundOther (sym is)
    (All-from_recursion IsSoundOther mux.others c.requires.sound.others.each i o (omega (arith, c.loop-other-test.true, ap length c.as_slice-other-items.ensures)))

pub put_remotes-requires-clause-parts : goal.put_remotes-requires-clause-parts
put_remotes-requires-clause-parts c =
    let mux = c.args.mux.now in
    let guide = c.args.guide.now.guide in
    let i = c.loop-carried.carried-index in
    let o = c.carried-item.result in
    let is : o ≡ get_or mux.others i o = c.carried-item.is ∙ ap (λ (os : List Other). get_or os i o) c.as_slice-carried-items.ensures in
    subst (HasPartsOf guide) (sym is)
    (All-from_recursion (HasPartsOf guide) mux.others (others_have mux guide c.requires.services) i o
    (omega (arith, c.loop-carried-test.true, ap length c.as_slice-carried-items.ensures)))
