use Rattle.std.proofs.Common.{◌≡◌, ◌+◌, ◌≤◌, reverse, vec_len}
use Rattle.std.specs.Vec.{vec_capacity}
use Rattle.feed_book.specs.Places.{all_put}
use Rattle.feed_book.proofs.events.put_all.Given as goal

abbrev pub invariant-loop-next : goal.invariant-loop-next
invariant-loop-next l = record {
  rest : all_put (reverse l.fresh.items) l.events.items ≡ all_put l.fn.fresh.items l.fn.events.items;
  room : vec_len l.events + vec_len l.fresh ≤ vec_capacity l.events;
}

abbrev pub decreases-loop-next : goal.decreases-loop-next
decreases-loop-next l = vec_len l.fresh
