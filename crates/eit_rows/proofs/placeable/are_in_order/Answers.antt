use Rattle.std.proofs.Common.{arith}
use Rattle.eit_rows.proofs.Fitting.{in_order}
use Rattle.eit_rows.proofs.placeable.are_in_order.Goals as goal

pub returns : goal.returns
returns c _ = in_order c.args.events.now (λ k d l. c.loop-i.invariant k d (omega (arith, c.loop-i-test.false, l)))
