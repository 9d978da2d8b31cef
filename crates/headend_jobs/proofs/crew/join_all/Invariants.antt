use Rattle.std.proofs.Common.{◌≡◌, ◌≤◌, ◌+◌, ◌++◌, length}
use Rattle.std.specs.Prelude.{vec_len, vec_capacity}
use Rattle.std.specs.Vec.Iter.{into_iter_items}
use mathlib.Core.List.{IsPrefix}
use Rattle.headend_jobs.specs.Jobs.{callers_of, lines_of}
use Rattle.headend_jobs.proofs.Joining.{AreLeft}
use Rattle.headend_jobs.proofs.crew.join_all.Given as goal

abbrev pub invariant-loop-job : goal.invariant-loop-job
invariant-loop-job g l = record {
  turns : l.pass.turns ≡ l.fn.pass.turns;
  on : l.pass.on ≡ l.fn.pass.on;
  own : l.pass.own ≡ l.fn.pass.own;
  began : IsPrefix l.fn.pass.seen l.pass.seen;
  finished : l.pass.finished ++ callers_of (into_iter_items l.job-iterator) ≡ l.fn.pass.finished ++ callers_of l.fn.jobs.items;
  left : AreLeft l.turns.turns l.fn.jobs.items (into_iter_items l.job-iterator) l.first;
  room : vec_len l.back + length (into_iter_items l.job-iterator) ≤ vec_capacity l.back;
  back : l.back.items ++ lines_of (into_iter_items l.job-iterator) ≡ l.fn.back.items ++ lines_of l.fn.jobs.items;
}
