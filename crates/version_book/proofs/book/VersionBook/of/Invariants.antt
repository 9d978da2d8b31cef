use Rattle.std.proofs.Common.{◌≡◌, ◌<◌, ◌≤◌, take, drop, length, vec_len}
use Rattle.std.specs.List.{All}
use Rattle.std.specs.BTreeMap.{IsOrdered}
use Rattle.section_codec.specs.declared.table.Key.{Key}
use Rattle.section_codec.specs.KeyOrder.{key_cmp}
use Rattle.version_book.specs.declared.key_version.KeyVersion.{KeyVersion}
use Rattle.version_book.specs.Book.{given_in, given_entries}
use Rattle.version_book.specs.Slots.{kept_at}
use Rattle.version_book.proofs.book.VersionBook.of.Given as goal

-- the slots keep what stands behind those that are left
abbrev pub invariant-loop-last : goal.invariant-loop-last
invariant-loop-last l = record {
  within : vec_len l.list ≤ length l.fn.kept;
  left : l.list.items ≡ take (vec_len l.list) l.fn.kept;
  small : All (λ (k : KeyVersion). k.version < 32) l.list.items;
  kept : (q : Key) → kept_at l.slots q ≡ given_in q (given_entries (drop (vec_len l.list) l.fn.kept));
  ordered : IsOrdered key_cmp l.slots;
}

abbrev pub decreases-loop-last : goal.decreases-loop-last
decreases-loop-last l = vec_len l.list
