use Rattle.std.proofs.Common.{◌≡◌, ◌*◌, ◌≤◌, take}
use Rattle.std.specs.List.{sum_by}
use Rattle.feed_book.specs.Index.{share_of}
use Rattle.feed_book.proofs.index.block_size.Given as goal

abbrev pub invariant-loop-i : goal.invariant-loop-i
invariant-loop-i l = record {
  sum : l.total ≡ sum_by (share_of l.slot) (take l.i l.slots);
  bound : l.total ≤ l.i * 1578;
}
