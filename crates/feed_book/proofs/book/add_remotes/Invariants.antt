use Rattle.std.proofs.Common.{◌≡◌, take}
use Rattle.mux_model.specs.Order.{all_placed}
use Rattle.feed_book.specs.Books.{has_lower_kept_id}
use Rattle.feed_book.proofs.Opening.{opened}
use Rattle.feed_book.proofs.book.add_remotes.Given as goal

abbrev pub invariant-loop-remote : goal.invariant-loop-remote
invariant-loop-remote l = l.services.items ≡ all_placed has_lower_kept_id (opened (take l.remote-index l.remotes)) l.fn.services.items
