use Rattle.std.specs.Prelude.{[]}
use Rattle.si_causes.specs.Reading.{room}
use Rattle.input_lines.proofs.LineReads.{ReadsOn}
use Rattle.mux_config.proofs.Reading.{from}
use Rattle.mux_config.proofs.read.read_mux.Given as goal

abbrev pub invariant-lines : goal.invariant-lines
invariant-lines g l = ReadsOn g.S.Source.left g.S.Source.faults g.S.Source.same (from []) (from l.records.items) l.fn.lines l.lines

abbrev pub decreases-lines : goal.decreases-lines
decreases-lines g l = room l.lines
