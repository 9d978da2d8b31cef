use Rattle.std.proofs.Common.{◌≡◌, ◌+◌, ◌-◌, ◌/◌, ◌≤◌}
use Rattle.section_codec.specs.Segments.{segments_need}
use Rattle.sub_collect.specs.Collectors.{last_in}
use Rattle.sub_collect.proofs.Needing.{with_numbers}
use Rattle.sub_collect.proofs.needed.needed_numbers.Given as goal

abbrev pub invariant-loop-segment : goal.invariant-loop-segment
invariant-loop-segment l = record {
  within : l.segment ≤ 1 + l.last / 8;
  so_far : segments_need (last_in l.lasts) 0 (1 + l.last / 8) ≡ with_numbers l.numbers.items (segments_need (last_in l.lasts) l.segment (1 + l.last / 8 - l.segment));
}
