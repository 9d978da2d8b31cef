use Rattle.std.proofs.Common.{◌≡◌, take}
use Rattle.guide_screen.specs.Reading.{services_in}
use Rattle.guide_screen.proofs.content_values.services_in.Given as goal

-- those of the sections so far
abbrev pub invariant-loop-section : goal.invariant-loop-section
invariant-loop-section l = l.services.items ≡ services_in (take l.section-index l.content)
