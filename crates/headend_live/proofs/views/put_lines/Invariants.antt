use Rattle.std.proofs.Common.{◌≡◌, ◌++◌, map, take}
use Rattle.headend_live.specs.Viewing.{line_of}
use Rattle.headend_live.proofs.views.put_lines.Given as goal

abbrev pub invariant-loop-answer : goal.invariant-loop-answer
invariant-loop-answer l = l.lines ≡ l.fn.lines ++ map (line_of l.service) (take l.answer-index l.answers)
