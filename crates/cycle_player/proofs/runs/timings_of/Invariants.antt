use Rattle.std.proofs.Common.{◌≡◌, ◌<◌, ◌++◌, length}
use Rattle.std.specs.List.{AllByRecursion}
use Rattle.air_timing.specs.declared.timing.Timing.{Timing}
use Rattle.air_timing.specs.PlanView.{left_of}
use Rattle.cycle_player.proofs.runs.timings_of.Given as goal

abbrev pub invariant-loop-timing : goal.invariant-loop-timing
invariant-loop-timing l = record {
  all : l.timings.items ++ left_of l.frames ≡ left_of l.fn.frames;
  most : AllByRecursion (λ (t : Timing). t.last < 4611686018427387904) l.timings.items;
}

abbrev pub decreases-loop-timing : goal.decreases-loop-timing
decreases-loop-timing l = length (left_of l.frames)
