use Rattle.std.proofs.Common.{◌≡◌, ◌+◌, ◌*◌, flat_map}
use Rattle.std.specs.List.{range_with_len}
use Rattle.eit_segments.specs.Schedule.{table_sections}
use Rattle.eit_segments.proofs.schedule.segments.Given as goal

abbrev pub invariant-loop-t : goal.invariant-loop-t
invariant-loop-t l = l.pieces ≡ flat_map (λ table. table_sections (80 + table) (l.first + 32 * table) l.events) (range_with_len 0 l.t)
