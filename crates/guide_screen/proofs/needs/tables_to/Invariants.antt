use Rattle.std.proofs.Common.{◌≡◌, ◌+◌, ◌-◌, ◌≤◌}
use Rattle.section_codec.specs.Contents.{numbers_from}
use Rattle.guide_screen.proofs.needs.tables_to.Given as goal

-- those from the first one on, so far
abbrev pub invariant-loop-table : goal.invariant-loop-table
invariant-loop-table l = record {
  above : l.first ≤ l.table;
  within : l.table - l.first ≤ 1 + l.last - l.first;
  so_far : l.tables.items ≡ numbers_from l.first (l.table - l.first);
}
