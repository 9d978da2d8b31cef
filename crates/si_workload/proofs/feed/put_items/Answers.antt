use Rattle.std.proofs.Common.{◌+◌, ◌≤◌, arith}
use Rattle.si_workload.proofs.Days.{takes_one}
use Rattle.si_workload.proofs.feed.put_items.Goals as goal

pub loop-next-preserved : goal.loop-next-preserved
loop-next-preserved c =
    let i = c.loop-next.invariant in
    let t = c.take-show.ensures in
    record {
      takes = takes_one c.args.end c.args.next.now c.loop-next.next c.take-show.new.self c.args.out.now.items c.loop-next.out.items c.put_item.new.out.items c.loop-next.count
          c.take-show.result i.takes i.later c.loop-next-test.true c.requires.end t.show t.some t.most t.id t.start t.state c.in_ok-put_item.ensures;
      later = omega (arith, i.later, t.start);
      few = omega (arith, i.few, t.start, t.some);
    }
