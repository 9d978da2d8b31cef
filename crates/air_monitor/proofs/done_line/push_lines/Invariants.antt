use Rattle.std.proofs.Common.{◌≡◌, ◌++◌, take}
use Rattle.air_monitor.specs.Heard.{lines_at}
use Rattle.air_monitor.proofs.done_line.push_lines.Given as goal

abbrev pub invariant-loop-done : goal.invariant-loop-done
invariant-loop-done l = l.lines ≡ l.fn.lines ++ lines_at l.packet (take l.done-index l.shown)
