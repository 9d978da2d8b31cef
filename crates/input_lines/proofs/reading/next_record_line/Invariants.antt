use Rattle.std.proofs.Common.{◌≡◌, ◌≤◌}
use Rattle.std.specs.Prelude.{None, IfSome}
use Rattle.si_causes.specs.Reading.{room}
use Rattle.input_lines.proofs.Steps.{Over}
use Rattle.input_lines.proofs.reading.next_record_line.Given as goal

abbrev pub invariant-lines : goal.invariant-lines
invariant-lines g l =
    record {
      stuck : IfSome l.fn.lines.stop (λ stop. l.lines ≡ l.fn.lines);
      same : g.S.Source.same l.fn.lines.source l.lines.source;
      later : g.S.Source.faults l.fn.lines.source ≤ g.S.Source.faults l.lines.source;
      over : l.fn.lines.stop ≡ None → Over g.S.Source.left l.fn.lines l.lines;
      falls : room l.lines ≤ room l.fn.lines;
    }

abbrev pub decreases-lines : goal.decreases-lines
decreases-lines g l = room l.lines
