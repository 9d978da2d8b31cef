use Rattle.std.proofs.Common.{ℕ, List, ◌++◌, ap, ◌∙◌}
use Rattle.std.specs.Prelude.{codes, flat_map, take}
use Rattle.guide_model.specs.Descriptors.{descriptor_text}
use Rattle.guide_model.proofs.Joined.{texts_whole}
use Rattle.guide_model.proofs.descriptor_text.put_descriptors.Goals as goal

pub returns : goal.returns
returns c =
    let others = flat_map (λ d. codes " " ++ descriptor_text d) (take c.loop-desc.desc-index c.in-Some.rest.now) in
    texts_whole descriptor_text c.args.descs.now c.in-Some.rest.now c.in-Some.first.now c.loop-desc.desc-index c.args.out.now.items c.loop-desc.out.items
    c.in-Some.ensures.cases.0 c.loop-desc-test.false (c.loop-desc.invariant ∙ ap (λ (l : List ℕ). l ++ others) c.in_ok-put_descriptor.ensures)
