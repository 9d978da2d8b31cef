use Rattle.std.proofs.Common.{◌≡◌, map, take}
use Rattle.guide_board.specs.Lines.{time_of}
use Rattle.guide_board.proofs.lines.times_of.Given as goal

-- the events so far have their times
abbrev pub invariant-loop-event : goal.invariant-loop-event
invariant-loop-event l = l.times.items ≡ map time_of (take l.event-index l.events)
