use Rattle.std.proofs.Common.{◌≡◌, ◌++◌, length}
use Rattle.air_audit.proofs.linking.order_of.Given as goal

abbrev pub invariant-loop-at : goal.invariant-loop-at
invariant-loop-at l = l.order.items ++ l.plan ≡ l.fn.plan

abbrev pub decreases-loop-at : goal.decreases-loop-at
decreases-loop-at l = length l.plan
