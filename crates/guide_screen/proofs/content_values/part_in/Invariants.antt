use Rattle.std.proofs.Common.{◌≡◌, drop}
use Rattle.section_codec.specs.Contents.{part_in}
use Rattle.guide_screen.proofs.content_values.part_in.Given as goal

-- those so far have another number
abbrev pub invariant-loop-section : goal.invariant-loop-section
invariant-loop-section l = part_in l.number l.content ≡ part_in l.number (drop l.section-index l.content)
