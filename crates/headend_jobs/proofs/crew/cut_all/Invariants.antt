use Rattle.std.proofs.Common.{◌≡◌, ◌≤◌, ◌+◌, length}
use Rattle.headend_jobs.proofs.Cutting.{Cut}
use Rattle.headend_jobs.proofs.crew.cut_all.Given as goal

abbrev pub invariant-loop-lines : goal.invariant-loop-lines
invariant-loop-lines g l = record {
  turns : l.pass.turns ≡ l.turns.turns;
  span : l.pass.own.span ≡ length l.feeds.items + 2;
  few : length l.feeds.items ≤ 16;
  cut : Cut l.turns.turns l.fn.pass l.pass l.fn.feeds.items l.feeds.items l.jobs.items;
}

abbrev pub decreases-loop-lines : goal.decreases-loop-lines
decreases-loop-lines g l = length l.feeds.items
