use Rattle.std.proofs.Common.{◌≡◌, map, take}
use Rattle.guide_board.specs.Lines.{line_of}
use Rattle.guide_board.proofs.lines.lines.Given as goal

abbrev pub invariant-loop-i : goal.invariant-loop-i
invariant-loop-i l = l.lines.items ≡ map (line_of l.guide.guide.moment.0) (take l.i l.guide.guide.services)
