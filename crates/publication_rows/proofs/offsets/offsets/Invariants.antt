use Rattle.std.proofs.Common.{◌≡◌, length}
use Rattle.std.specs.List.{AllByRecursion}
use Rattle.time_tables.specs.LocalOffsets.{FitsOffset}
use Rattle.publication_rows.proofs.offsets.offsets.Given as goal

abbrev pub invariant-loop-region : goal.invariant-loop-region
invariant-loop-region l = record {
  count : length l.offsets ≡ l.region;
  fit : AllByRecursion FitsOffset l.offsets;
}
