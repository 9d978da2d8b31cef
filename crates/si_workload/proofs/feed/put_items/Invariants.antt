use Rattle.std.proofs.Common.{◌≤◌, ◌-◌}
use Rattle.si_workload.specs.Going.{Takes}
use Rattle.si_workload.proofs.feed.put_items.Given as goal

abbrev pub invariant-loop-next : goal.invariant-loop-next
invariant-loop-next l = record {
  takes : Takes l.end l.fn.next l.next l.fn.out.items l.out.items l.count;
  later : l.fn.next.start ≤ l.next.start;
  few : l.count ≤ l.next.start;
}

abbrev pub decreases-loop-next : goal.decreases-loop-next
decreases-loop-next l = l.end - l.next.start
