use Rattle.std.proofs.Common.{◌≡◌, ◌-◌, ◌*◌, ◌≤◌}
use Rattle.std.specs.Prelude.{slice_index}
use Rattle.section_codec.specs.Contents.{numbers_from}
use Rattle.air_model.specs.Cutting.{packets_in}
use Rattle.cycle_timing.proofs.body.packets_between.Given as goal

abbrev pub invariant-loop-index : goal.invariant-loop-index
invariant-loop-index l = record {
  total : l.total ≡ packets_in (slice_index l.sizes) (numbers_from l.from (l.index - l.from));
  bound : l.total ≤ 4294967296 * (l.index - l.from);
}
