use Rattle.std.proofs.Common.{◌≡◌, ℕ, ◌/◌, ◌<◌, ◌≤◌, false}
use Rattle.cycle_player.specs.Tally.{is_right}
use Rattle.cycle_player.proofs.tally.Tally.least_rate.Given as goal

abbrev pub invariant-rates : goal.invariant-rates
invariant-rates l = record {
  leads : l.leads ≡ l.fn.self.most;
  none : (s : ℕ) → 100000 ≤ s → s / 3008 < l.half → is_right s l.leads ≡ false;
}
