use Rattle.std.proofs.Common.{◌≡◌, ◌++◌, codes, take, flat_map}
use Rattle.guide_model.specs.Descriptors.{descriptor_text}
use Rattle.guide_model.proofs.descriptor_text.put_descriptors.Given as goal

abbrev pub invariant-loop-desc : goal.invariant-loop-desc
invariant-loop-desc l = l.out.items ≡ l.initial.out.items ++ flat_map (λ d. codes " " ++ descriptor_text d) (take l.desc-index l.rest)
