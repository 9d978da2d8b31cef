use Rattle.std.proofs.Common.{◌≡◌, ℕ, ◌<◌, get_or, false}
use Rattle.feed_book.specs.declared.index.IndexedEvent.{IndexedEvent}
use Rattle.feed_book.specs.Index.{is_in_the_way}
use Rattle.feed_book.proofs.index.first_in_the_way.Given as goal

abbrev pub invariant-loop-i : goal.invariant-loop-i
invariant-loop-i l = (k : ℕ) (d : IndexedEvent) → k < l.i → is_in_the_way l.slot (get_or l.slots k d) ≡ false
