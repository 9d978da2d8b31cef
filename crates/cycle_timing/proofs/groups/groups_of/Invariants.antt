use Rattle.std.proofs.Common.{◌≡◌, ℕ}
use Rattle.std.specs.Ordering.{nat_cmp}
use Rattle.std.specs.BTreeMap.{get, IsOrdered}
use Rattle.air_model.specs.Cursor.{upto}
use Rattle.cycle_timing.specs.SubTables.{groups}
use Rattle.cycle_timing.specs.Planning.{table_at}
use Rattle.cycle_timing.proofs.Grouping.{place_in, numbers_of}
use Rattle.cycle_timing.proofs.groups.groups_of.Given as goal

abbrev pub invariant-loop-index : goal.invariant-loop-index
invariant-loop-index l = record {
  made : l.made.items ≡ groups (table_at l.sections) (upto l.from l.index);
  slots : (q : ℕ) → get nat_cmp l.slots q ≡ place_in (numbers_of (table_at l.sections) (upto l.from l.index)) q;
  ordered : IsOrdered nat_cmp l.slots;
}
