use Rattle.std.proofs.Common.{◌≡◌, ◌++◌, take}
use Rattle.std.specs.List.{All}
use Rattle.cycle_timing.specs.Listing.{listed_of, HasRange}
use Rattle.cycle_timing.proofs.listed.put_tables.Given as goal

abbrev pub invariant-loop-table : goal.invariant-loop-table
invariant-loop-table l = record {
  listed : l.listed.items ≡ l.fn.listed.items ++ listed_of (take l.table-index l.tables);
  ranges : All HasRange (take l.table-index l.tables);
}
