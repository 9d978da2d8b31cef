use Rattle.std.proofs.Common.{◌≡◌, ◌+◌, drop}
use Rattle.guide_model.specs.Descriptors.{descriptors_size}
use Rattle.descriptors.proofs.descriptors.descriptors_len.Given as goal

-- those so far and the rest
abbrev pub invariant-loop-desc : goal.invariant-loop-desc
invariant-loop-desc l = l.len + descriptors_size (drop l.desc-index l.descs) ≡ descriptors_size l.descs
