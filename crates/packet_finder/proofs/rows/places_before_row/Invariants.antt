use Rattle.std.proofs.Common.{◌≡◌, ◌≤◌, ◌<◌, ◌-◌, ℕ, length, drop, false}
use Rattle.std.specs.Prelude.{None}
use Rattle.packet_finder.specs.Pieces.{row_length}
use Rattle.packet_finder.proofs.rows.places_before_row.Given as goal

abbrev pub invariant-loop-place : goal.invariant-loop-place
invariant-loop-place l =
    record {
      within : l.place ≤ length l.bytes;
      none : (i : ℕ) → i < l.place → row_length (drop i l.bytes) ≡ None;
      judged : l.ended ≡ false → (i : ℕ) → i < l.place → 409 ≤ length l.bytes - i;
    }

abbrev pub decreases-loop-place : goal.decreases-loop-place
decreases-loop-place l = length l.bytes - l.place
