use Rattle.std.proofs.Common.{take}
use Rattle.std.specs.List.{AllByRecursion}
use Rattle.guide_model.specs.Descriptors.{IsOfBytes}
use Rattle.headend_live.proofs.typed.descriptors_are_typed.Given as goal

abbrev pub invariant-loop-desc : goal.invariant-loop-desc
invariant-loop-desc l = record {
  all : AllByRecursion IsOfBytes (take l.desc-index l.descs);
}
