use Rattle.std.proofs.Common.{◌≡◌, List, [], ◌∷◌, length, length-append, sym, ap, subst, arith}
use Rattle.std.specs.List.{AllByRecursion}
use Rattle.si_lists.proofs.Lists.{all_push}
use Rattle.guide_model.specs.declared.offset.Offset.{Offset}
use Rattle.time_tables.specs.LocalOffsets.{FitsOffset}
use Rattle.publication_rows.proofs.offsets.offsets.Goals as goal

pub loop-region-preserved : goal.loop-region-preserved
loop-region-preserved c = record {
  count = omega (arith, ap length c.in_ok-push.ensures.ok, length-append c.loop-region.offsets (c.offset.result ∷ []), c.loop-region.invariant.count);
  fit = subst (AllByRecursion FitsOffset) (sym c.in_ok-push.ensures.ok) (all_push FitsOffset c.loop-region.offsets c.offset.result c.loop-region.invariant.fit c.offset.ensures);
}
