use Rattle.std.proofs.Common.{List, ℕ, Bor}
use Rattle.cycle_timing.proofs.Turning.{first_more, left_more}
use Rattle.cycle_timing.proofs.rounds.put_round.Goals as goal

pub loop-group-preserved : goal.loop-group-preserved
loop-group-preserved c =
    let i = c.loop-group.invariant in
    let e = c.in_ok-put_first.ensures in
    record {
      order = first_more (λ (g : Bor (List ℕ)). g.now) c.args.groups.now c.loop-group.group-index _ c.args.order.now.items c.loop-group.order.items c.put_first.new.order.items c.loop-group-test.true i.order e.order;
      left = left_more (λ (g : Bor (List ℕ)). g.now) c.args.groups.now c.loop-group.group-index _ _ _ c.loop-group-test.true i.left e.left;
    }
