use Rattle.std.proofs.Common.{◌≡◌, ◌+◌, ◌-◌, ◌/◌, ◌≤◌, ◌++◌, flat_map}
use Rattle.section_codec.specs.Contents.{numbers_from}
use Rattle.sub_collect.specs.Collectors.{last_in}
use Rattle.sub_collect.specs.Parts.{known_in}
use Rattle.sub_collect.proofs.needed.known_numbers.Given as goal

abbrev pub invariant-loop-segment : goal.invariant-loop-segment
invariant-loop-segment l = record {
  within : l.segment ≤ 1 + l.last / 8;
  so_far : l.numbers.items ++ flat_map (known_in (last_in l.lasts)) (numbers_from l.segment (1 + l.last / 8 - l.segment))
      ≡ flat_map (known_in (last_in l.lasts)) (numbers_from 0 (1 + l.last / 8));
}
