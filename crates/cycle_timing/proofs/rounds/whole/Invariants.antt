use Rattle.std.proofs.Common.{◌≡◌, List, map, take, ℕ, Bor}
use Rattle.cycle_timing.proofs.rounds.whole.Given as goal

abbrev pub invariant-loop-group : goal.invariant-loop-group
invariant-loop-group l = map (λ (g : Bor (List ℕ)). g.now) l.left.items ≡ take l.group-index l.groups
