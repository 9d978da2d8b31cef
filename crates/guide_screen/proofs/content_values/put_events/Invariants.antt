use Rattle.std.proofs.Common.{◌≡◌, ◌++◌, take}
use Rattle.guide_screen.specs.Reading.{events_in}
use Rattle.guide_screen.proofs.content_values.put_events.Given as goal

-- those of the sections so far stand behind what was there
abbrev pub invariant-loop-section : goal.invariant-loop-section
invariant-loop-section l = l.out.items ≡ l.fn.out.items ++ events_in (take l.section-index l.content)
