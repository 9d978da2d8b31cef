use Rattle.std.proofs.Common.{◌≡◌, ◌+◌, ◌≤◌, length, drop}
use Rattle.eit_segments.specs.Schedule.{section_runs}
use Rattle.eit_segments.proofs.Cutting.{runs_left}
use Rattle.eit_segments.proofs.runs.count_runs.Given as goal

abbrev pub invariant-loop-i : goal.invariant-loop-i
invariant-loop-i l = record {
  sum : l.runs + runs_left l.room (drop l.i l.events) ≡ 1 + length (section_runs l.events);
  few : l.runs ≤ 1 + l.i;
}
