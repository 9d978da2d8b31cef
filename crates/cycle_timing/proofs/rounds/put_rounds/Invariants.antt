use Rattle.std.proofs.Common.{◌≡◌, ◌++◌, ◌-◌, List, map, ℕ, Bor}
use Rattle.air_timing.specs.Spreading.{spread}
use Rattle.cycle_timing.proofs.rounds.put_rounds.Given as goal

abbrev pub invariant-loop-round : goal.invariant-loop-round
invariant-loop-round l = l.order.items ++ spread (l.rounds - l.round) (map (λ (g : Bor (List ℕ)). g.now) l.left.items) ≡ l.fn.order.items ++ spread l.rounds l.groups
