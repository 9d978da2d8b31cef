use Rattle.std.specs.Prelude.{List, ℕ, Option, Ok, Err, option_and_then}
use Rattle.input_lines.specs.Ahead.{Ahead, Found, Row, on_line}
use Rattle.input_lines.specs.Fields.{record_of}
use Rattle.input_lines.proofs.LineReads.{read_said, next_read, next_end, next_stopped}
use Rattle.journal_model.specs.declared.control.Control.{Control}
use Rattle.script_lines.specs.Controls.{control_of}
use Rattle.script_lines.proofs.control.next_control.Goals as goal

abbrev control_in : List ℕ → Option Control
control_in line = option_and_then control_of (record_of line)

abbrev body : Row → Ahead → Found Control
body row behind = on_line row.0 (control_in row.1) behind

pub returns-in-Ok-None-clause-reads : goal.returns-in-Ok-None-clause-reads
returns-in-Ok-None-clause-reads g c =
    let e = rw c.in-Ok-None.field-0-is at c.in-Ok-None.ensures in
    next_end g.S.Source.left g.S.Source.faults g.S.Source.same g.met.S.Source.same_at_once g.met.S.Source.same_later body c.args.lines.now c.next_record_line.new.lines e

pub returns-in-Err-clause-reads : goal.returns-in-Err-clause-reads
returns-in-Err-clause-reads g c = next_stopped g.S.Source.left g.S.Source.faults g.S.Source.same g.met.S.Source.same_at_once g.met.S.Source.same_later body c.args.lines.now c.next_record_line.new.lines c.in-Err.stop c.in-Err.ensures

pub returns-in-Ok-clause-reads : goal.returns-in-Ok-clause-reads
returns-in-Ok-clause-reads g c =
    let mid = c.next_record_line.new.lines in
    let e = rw c.in-Ok-Some.field-0-is at c.in-Ok-Some.ensures in
    next_read g.S.Source.left g.S.Source.faults g.S.Source.same g.met.S.Source.same_at_once g.met.S.Source.same_later body c.args.lines.now mid mid c.in-Ok-Some.at c.line.result.now (Ok c.in-Ok.control) c.line.ensures e
    (read_said g.S.Source.left g.S.Source.faults g.S.Source.same g.met.S.Source.same_at_once g.met.S.Source.same_later c.in-Ok-Some.at (control_in c.line.result.now) mid (Ok c.in-Ok.control) c.in-Ok.ensures.says)

pub returns-in-Err-control_on-clause-reads : goal.returns-in-Err-control_on-clause-reads
returns-in-Err-control_on-clause-reads g c =
    let mid = c.next_record_line.new.lines in
    let e = rw c.in-Ok-Some.field-0-is at c.in-Ok-Some.ensures in
    next_read g.S.Source.left g.S.Source.faults g.S.Source.same g.met.S.Source.same_at_once g.met.S.Source.same_later body c.args.lines.now mid mid c.in-Ok-Some.at c.line.result.now (Err c.in-Err-control_on.stop) c.line.ensures e
    (read_said g.S.Source.left g.S.Source.faults g.S.Source.same g.met.S.Source.same_at_once g.met.S.Source.same_later c.in-Ok-Some.at (control_in c.line.result.now) mid (Err c.in-Err-control_on.stop) c.in-Err-control_on.ensures.says)
