use Rattle.std.proofs.Common.{arith, ◌∙◌}
use Rattle.cycle_timing.proofs.Naming.{number_is, firsts_more, paced_more}
use Rattle.cycle_timing.proofs.numbers.paced_of.Goals as goal

pub loop-section-preserved : goal.loop-section-preserved
loop-section-preserved c =
    let i = c.loop-section.invariant in
    let ls = c.args.listed.now in
    let at = c.loop-section.section-index in
    let less = c.loop-section-test.true in
    record {
      place = (let e = c.in_ok-place.ensures in let f = i.place in omega arith);
      paced = paced_more ls at _ c.tier_of.result c.in_ok-table.table _ _ less i.paced c.tier_of.ensures (c.in_ok-table.ensures.value ∙ number_is ls at c.loop-section.place _ _ less i.place (i.firsts _)) c.in_ok-push.ensures.items;
      firsts = λ q. firsts_more ls at c.loop-section.place _ q _ _ less i.place (i.firsts q) (c.in_ok-table.ensures.firsts q);
      ordered = c.first_place.ensures.ordered;
    }
