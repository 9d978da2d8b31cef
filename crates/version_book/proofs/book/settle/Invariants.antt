use Rattle.std.proofs.Common.{◌≡◌, ◌≤◌, map, take, drop, length, vec_len}
use Rattle.std.specs.List.{All}
use Rattle.std.specs.BTreeMap.{IsOrdered}
use Rattle.section_codec.specs.declared.table.Key.{Key}
use Rattle.section_codec.specs.KeyOrder.{key_cmp}
use Rattle.version_book.specs.Slots.{kept_at, content_given, HasSlot, given_after}
use Rattle.version_book.proofs.book.settle.Given as goal

abbrev pub invariant-loop-change : goal.invariant-loop-change
invariant-loop-change l = record {
  within : vec_len l.changes ≤ length l.tables;
  changes : l.changes.items ≡ take (vec_len l.changes) (map (content_given l.fn.slots) l.tables);
  kept : (q : Key) → kept_at l.slots q ≡ given_after (kept_at l.fn.slots) (drop (vec_len l.changes) l.tables) q;
  made : All (HasSlot l.slots) l.tables;
  ordered : IsOrdered key_cmp l.slots;
}

abbrev pub decreases-loop-change : goal.decreases-loop-change
decreases-loop-change l = vec_len l.changes
