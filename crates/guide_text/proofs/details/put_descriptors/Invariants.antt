use Rattle.std.proofs.Common.{◌≡◌, ◌++◌, take, flat_map}
use Rattle.guide_text.specs.Guides.{descriptor_line}
use Rattle.guide_text.proofs.details.put_descriptors.Given as goal

abbrev pub invariant-loop-desc : goal.invariant-loop-desc
invariant-loop-desc l = l.out.items ≡ l.fn.out.items ++ flat_map (descriptor_line l.word) (take l.desc-index l.descs)
