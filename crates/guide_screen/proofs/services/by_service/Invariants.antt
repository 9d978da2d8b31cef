use Rattle.std.proofs.Common.{◌≡◌, ◌++◌, length, take, drop}
use Rattle.guide_screen.specs.Needs.{by_service}
use Rattle.guide_screen.proofs.Ordering.{by_id}
use Rattle.guide_screen.proofs.services.by_service.Given as goal

-- those that are left stand at the front, and those behind them are in order
abbrev pub invariant-loop-service : goal.invariant-loop-service
invariant-loop-service l =
    (l.services.items ≡ take (length l.services.items) l.fn.services.items)
    × (l.by_id.entries ≡ by_id (by_service (drop (length l.services.items) l.fn.services.items)))

abbrev pub decreases-loop-service : goal.decreases-loop-service
decreases-loop-service l = length l.services.items

-- those so far and those that follow are all
abbrev pub invariant-loop-service-2 : goal.invariant-loop-service-2
invariant-loop-service-2 l = l.ordered.items ++ l.service-iterator ≡ by_service l.fn.services.items
