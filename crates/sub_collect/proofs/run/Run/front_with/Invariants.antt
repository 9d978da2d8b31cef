use Rattle.std.proofs.Common.{◌≡◌, ℕ, ◌-◌, ◌<◌, ◌≤◌, true}
use Rattle.std.specs.Prelude.{is_some}
use Rattle.sub_collect.specs.Collectors.{body_in}
use Rattle.sub_collect.proofs.run.Run.front_with.Given as goal

abbrev pub invariant-loop-front : goal.invariant-loop-front
invariant-loop-front l = record {
  within : l.front ≤ 256;
  above : l.self.front < l.front;
  held : (n : ℕ) → l.self.front < n → n < l.front → is_some (body_in n l.self.held.entries) ≡ true;
}

abbrev pub decreases-loop-front : goal.decreases-loop-front
decreases-loop-front l = 256 - l.front
