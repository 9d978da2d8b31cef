use Rattle.std.proofs.Common.{◌≡◌, ℕ, ◌<◌, map, take, slice_index_or}
use Rattle.std.specs.List.{All}
use Rattle.std.specs.BTreeMap.{IsOrdered}
use Rattle.section_codec.specs.declared.table.Key.{Key}
use Rattle.section_codec.specs.declared.table.SubTable.{SubTable}
use Rattle.section_codec.specs.KeyOrder.{key_cmp}
use Rattle.version_book.specs.Slots.{held_at, shown, version_given, content_given, HasSlot}
use Rattle.version_book.proofs.book.planned.Given as goal

abbrev pub invariant-loop-table : goal.invariant-loop-table
invariant-loop-table l = record {
  versions : l.versions.items ≡ map (version_given l.fn.slots) (take l.table-index l.tables);
  changes : l.changes.items ≡ map (content_given l.fn.slots) (take l.table-index l.tables);
  small : All (λ v. v < 32) l.versions.items;
  made : (k : ℕ) (d : SubTable) → k < l.table-index → HasSlot l.slots (slice_index_or l.tables k d);
  held : (q : Key) → held_at l.slots q ≡ held_at l.fn.slots q;
  shown_same : shown l.slots.entries ≡ shown l.fn.slots.entries;
  ordered : IsOrdered key_cmp l.slots;
}
