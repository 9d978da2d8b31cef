use Rattle.std.proofs.Common.{◌≡◌, ◌+◌, take}
use Rattle.std.specs.Prelude.{sum_by}
use Rattle.eit_segments.specs.declared.event.EventAt.{EventAt}
use Rattle.eit_rows.proofs.placeable.are_few_bytes.Given as goal

abbrev pub invariant-loop-i : goal.invariant-loop-i
invariant-loop-i l = l.room + sum_by (λ (event : EventAt). event.size) (take l.i l.events) ≡ 20000
