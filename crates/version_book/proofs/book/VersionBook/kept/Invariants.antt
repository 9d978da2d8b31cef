use Rattle.std.proofs.Common.{◌≡◌, ◌<◌, ◌++◌}
use Rattle.std.specs.List.{All}
use Rattle.version_book.specs.declared.key_version.KeyVersion.{KeyVersion}
use Rattle.version_book.specs.Book.{given_entries}
use Rattle.version_book.specs.Slots.{shown}
use Rattle.version_book.proofs.book.VersionBook.kept.Given as goal

-- what was copied and what is to come are all
abbrev pub invariant-loop-key : goal.invariant-loop-key
invariant-loop-key l = record {
  entries : given_entries l.kept ++ shown l.key-iterator ≡ shown l.self-inside.slots.entries;
  small : All (λ (k : KeyVersion). k.version < 32) l.kept;
}
