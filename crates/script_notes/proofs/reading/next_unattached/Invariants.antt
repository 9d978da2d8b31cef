use Rattle.std.proofs.Common.{◌≡◌}
use Rattle.std.specs.Prelude.{None}
use Rattle.si_causes.specs.Reading.{room}
use Rattle.input_lines.proofs.LineReads.{ReadsOn}
use Rattle.script_notes.proofs.RowReads.{unattached_row}
use Rattle.script_notes.proofs.reading.next_unattached.Given as goal

abbrev pub invariant-lines : goal.invariant-lines
invariant-lines g l = record {
  reads : ReadsOn g.S.Source.left g.S.Source.faults g.S.Source.same unattached_row unattached_row l.fn.lines l.lines;
  going : l.lines.stop ≡ None;
}

abbrev pub decreases-lines : goal.decreases-lines
decreases-lines g l = room l.lines
