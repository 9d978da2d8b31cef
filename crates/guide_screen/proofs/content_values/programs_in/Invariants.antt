use Rattle.std.proofs.Common.{◌≡◌, take}
use Rattle.guide_screen.specs.Reading.{programs_in}
use Rattle.guide_screen.proofs.content_values.programs_in.Given as goal

-- those of the sections so far
abbrev pub invariant-loop-section : goal.invariant-loop-section
invariant-loop-section l = l.programs.items ≡ programs_in (take l.section-index l.content)
