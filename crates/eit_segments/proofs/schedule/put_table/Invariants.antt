use Rattle.std.proofs.Common.{◌≡◌, ◌+◌, ◌++◌, flat_map}
use Rattle.std.specs.List.{range_with_len}
use Rattle.eit_segments.specs.Placement.{block_place}
use Rattle.eit_segments.specs.Schedule.{segment_sections, last_number}
use Rattle.eit_segments.proofs.schedule.put_table.Given as goal

abbrev pub invariant-loop-n : goal.invariant-loop-n
invariant-loop-n l = record {
  from : l.from ≡ block_place (l.first + l.n) l.events;
  pieces : l.pieces ≡ l.initial.pieces ++ flat_map (λ segment. segment_sections l.table (last_number l.first l.events) segment (l.first + segment) l.events) (range_with_len 0 l.n);
}
