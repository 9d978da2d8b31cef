use Rattle.eit_rows.proofs.Fitting.{AreAdjacent}
use Rattle.eit_rows.proofs.placeable.are_in_order.Given as goal

abbrev pub invariant-loop-i : goal.invariant-loop-i
invariant-loop-i l = AreAdjacent l.events l.i
