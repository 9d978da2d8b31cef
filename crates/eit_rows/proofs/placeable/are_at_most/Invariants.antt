use Rattle.std.proofs.Common.{ℕ, ◌<◌, ◌≤◌, get_or}
use Rattle.eit_segments.specs.declared.event.EventAt.{EventAt}
use Rattle.eit_rows.proofs.placeable.are_at_most.Given as goal

abbrev pub invariant-loop-i : goal.invariant-loop-i
invariant-loop-i l = (k : ℕ) (d : EventAt) → k < l.i → (get_or l.events k d).size ≤ l.most
