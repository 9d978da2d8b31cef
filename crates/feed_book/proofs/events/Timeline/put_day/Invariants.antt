use Rattle.std.proofs.Common.{◌≡◌, drop}
use Rattle.feed_book.specs.Replies.{off_day, day_fault}
use Rattle.feed_book.specs.Index.{AreIndexed}
use Rattle.feed_book.specs.Places.{all_put}
use Rattle.feed_book.proofs.DaySteps.{so_far}
use Rattle.feed_book.proofs.events.Timeline.put_day.Given as goal

abbrev pub invariant-loop-i : goal.invariant-loop-i
invariant-loop-i l = record {
  along : day_fault l.day l.i (so_far l.items (off_day l.day l.fn.self.events) l.i) (drop l.i l.items) ≡ day_fault l.day 0 (off_day l.day l.fn.self.events) l.items;
  indexed : AreIndexed (so_far l.items (off_day l.day l.fn.self.events) l.i) l.index.items;
  puts : all_put l.fresh.items (off_day l.day l.fn.self.events) ≡ so_far l.items (off_day l.day l.fn.self.events) l.i;
}
