use Rattle.std.proofs.Common.{◌≡◌, ◌≤◌, ◌-◌, ℕ, length}
use Rattle.std.specs.Prelude.{slice_index}
use Rattle.air_model.specs.Cutting.{cut_from}
use Rattle.air_model.specs.Cursor.{upto}
use Rattle.cycle_timing.proofs.Chunks.{in_fronts}
use Rattle.cycle_timing.proofs.body.chunk_end.Given as goal

abbrev pub invariant-loop-end : goal.invariant-loop-end
invariant-loop-end l = record {
  least : l.from ≤ l.end;
  bound : l.end ≤ length l.sizes;
  cut : (least : ℕ) → cut_from (slice_index l.sizes) least l.wanted (upto l.from (length l.sizes))
      ≡ in_fronts (upto l.from l.end) (cut_from (slice_index l.sizes) least l.wants (upto l.end (length l.sizes)));
}

abbrev pub decreases-loop-end : goal.decreases-loop-end
decreases-loop-end l = length l.sizes - l.end
