use Rattle.std.proofs.Common.{◌≡◌, ◌++◌, length, take, drop}
use Rattle.guide_parts.specs.PartScreen.{by_id, in_order}
use Rattle.guide_parts.proofs.listed.in_order.Given as goal

-- those that are left stand at the front, and those behind them are in order
abbrev pub invariant-loop-one : goal.invariant-loop-one
invariant-loop-one l =
    (l.listed.items ≡ take (length l.listed.items) l.fn.listed.items)
    × (l.by_id.entries ≡ by_id (drop (length l.listed.items) l.fn.listed.items))

abbrev pub decreases-loop-one : goal.decreases-loop-one
decreases-loop-one l = length l.listed.items

-- those so far and those that follow are all
abbrev pub invariant-loop-one-2 : goal.invariant-loop-one-2
invariant-loop-one-2 l = l.ordered.items ++ l.one-iterator ≡ in_order l.fn.listed.items
