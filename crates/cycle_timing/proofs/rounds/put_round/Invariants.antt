use Rattle.std.proofs.Common.{◌≡◌, ◌++◌, List, map, take, ℕ, Bor}
use Rattle.air_timing.specs.Spreading.{firsts, rests}
use Rattle.cycle_timing.specs.Turns.{with_more}
use Rattle.cycle_timing.proofs.rounds.put_round.Given as goal

abbrev pub invariant-loop-group : goal.invariant-loop-group
invariant-loop-group l = record {
  order : l.order.items ≡ l.fn.order.items ++ firsts (map (λ (g : Bor (List ℕ)). g.now) (take l.group-index l.groups));
  left : map (λ (g : Bor (List ℕ)). g.now) l.left.items ≡ with_more (rests (map (λ (g : Bor (List ℕ)). g.now) (take l.group-index l.groups)));
}
