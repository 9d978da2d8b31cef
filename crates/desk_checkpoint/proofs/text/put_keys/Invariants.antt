use Rattle.std.proofs.Common.{◌≡◌, ◌++◌, take, flat_map}
use Rattle.version_book.specs.Book.{given_entries}
use Rattle.desk_checkpoint.specs.Text.{HasByteBodies, key_text}
use Rattle.desk_checkpoint.proofs.text.put_keys.Given as goal

abbrev pub invariant-loop-key : goal.invariant-loop-key
invariant-loop-key l = record {
  text : l.out.items ≡ l.fn.out.items ++ flat_map key_text (given_entries (take l.key-index l.keys));
  bytes : HasByteBodies (given_entries (take l.key-index l.keys));
}
