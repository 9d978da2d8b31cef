use Rattle.std.proofs.Common.{take}
use Rattle.std.specs.List.{AllByRecursion}
use Rattle.mux_model.specs.Sound.{HasStreamIds}
use Rattle.headend_live.proofs.typed.have_ids.Given as goal

abbrev pub invariant-loop-other : goal.invariant-loop-other
invariant-loop-other l = record {
  all : AllByRecursion HasStreamIds (take l.other-index l.others);
}
