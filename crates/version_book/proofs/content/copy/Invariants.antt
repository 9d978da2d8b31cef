use Rattle.std.proofs.Common.{◌≡◌, take}
use Rattle.version_book.proofs.content.copy.Given as goal

abbrev pub invariant-loop-part : goal.invariant-loop-part
invariant-loop-part l = l.copied.items ≡ take l.part-index l.content
