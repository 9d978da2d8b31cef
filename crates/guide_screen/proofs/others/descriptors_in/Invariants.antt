use Rattle.std.proofs.Common.{◌≡◌, drop}
use Rattle.guide_screen.specs.Screen.{descriptors_in}
use Rattle.guide_screen.proofs.others.descriptors_in.Given as goal

-- those so far are other streams
abbrev pub invariant-loop-entry : goal.invariant-loop-entry
invariant-loop-entry l = descriptors_in l.stream l.original l.streams ≡ descriptors_in l.stream l.original (drop l.entry-index l.streams)
