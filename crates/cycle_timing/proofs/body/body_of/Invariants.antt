use Rattle.std.proofs.Common.{◌≡◌, ◌+◌, ◌-◌, ◌≤◌, ◌++◌, ℕ, List, length}
use Rattle.std.specs.Prelude.{flat_map}
use Rattle.air_model.specs.Cursor.{upto}
use Rattle.cycle_timing.specs.Planning.{in_turns, body_of}
use Rattle.cycle_timing.specs.Tiers.{tiers_of}
use Rattle.cycle_timing.proofs.Chunks.{chunks_from}
use Rattle.cycle_timing.proofs.body.body_of.Given as goal

abbrev pub invariant-loop-body : goal.invariant-loop-body
invariant-loop-body l = record {
  bound : l.from ≤ length l.sizes;
  left : l.body.items ++ flat_map (λ (chunk : List ℕ). in_turns l.sections (upto l.fasts (l.fasts + l.nears)) ++ in_turns l.sections chunk) (chunks_from l.sizes l.wanted l.from)
      ≡ body_of l.sections (tiers_of l.fasts l.nears l.sizes);
}

abbrev pub decreases-loop-body : goal.decreases-loop-body
decreases-loop-body l = length l.sizes - l.from
