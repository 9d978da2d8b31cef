use Rattle.std.proofs.Common.{List, ℕ, refl, arith}
use Rattle.std.specs.Prelude.{Option, option_and_then}
use Rattle.input_lines.specs.declared.stop.EditStop.TheVariants.{NoCommand, Read}
use Rattle.input_lines.specs.Fields.{record_of}
use Rattle.input_lines.specs.Ahead.{Ahead, Row, first_row, missing_at, on_line}
use Rattle.input_lines.proofs.LineReads.{line_read, line_missing, line_stopped, read_said, read_then, read_unread}
use Rattle.cycle_player.specs.declared.clock.Clock.{Clock}
use Rattle.desk_checkpoint.specs.Fields.{clock_of}
use Rattle.desk_checkpoint.proofs.head.next_clock.Goals as goal

abbrev clock_in_line : List ℕ → Option Clock
clock_in_line line = option_and_then clock_of (record_of line)

pub returns-in-Ok-Some : goal.returns-in-Ok-Some
returns-in-Ok-Some g c =
    let line = c.line.result.now in
    let e = rw c.in-Ok-Some.field-0-is at c.in-Ok-Some.ensures in
    read_then g.S.Source.left g.S.Source.faults g.S.Source.same g.met.S.Source.same_at_once g.met.S.Source.same_later (first_row missing_at) (λ (row : Row) (behind : Ahead). on_line row.0 (clock_in_line row.1) behind)
    c.args.lines.now c.next_record_line.new.lines c.next_record_line.new.lines (c.in-Ok-Some.at, line) c.clock_on.result
    (line_read g.S.Source.left g.S.Source.faults g.S.Source.same g.met.S.Source.same_at_once g.met.S.Source.same_later missing_at c.args.lines.now c.next_record_line.new.lines c.in-Ok-Some.at line refl c.line.ensures e)
    (read_said g.S.Source.left g.S.Source.faults g.S.Source.same g.met.S.Source.same_at_once g.met.S.Source.same_later c.in-Ok-Some.at (clock_in_line line) c.next_record_line.new.lines c.clock_on.result c.clock_on.ensures.says)

pub returns-in-Ok-None : goal.returns-in-Ok-None
returns-in-Ok-None g c =
    let e = rw c.in-Ok-None.field-0-is at c.in-Ok-None.ensures in
    read_unread g.S.Source.left g.S.Source.faults g.S.Source.same g.met.S.Source.same_at_once g.met.S.Source.same_later (first_row missing_at) (λ (row : Row) (behind : Ahead). on_line row.0 (clock_in_line row.1) behind)
    c.args.lines.now c.next_record_line.new.lines (NoCommand _)
    (line_missing g.S.Source.left g.S.Source.faults g.S.Source.same g.met.S.Source.same_at_once g.met.S.Source.same_later c.args.lines.now c.next_record_line.new.lines _ (omega (arith, c.number.ensures.value)) e)

pub returns-in-Err : goal.returns-in-Err
returns-in-Err g c =
    read_unread g.S.Source.left g.S.Source.faults g.S.Source.same g.met.S.Source.same_at_once g.met.S.Source.same_later (first_row missing_at) (λ (row : Row) (behind : Ahead). on_line row.0 (clock_in_line row.1) behind)
    c.args.lines.now c.next_record_line.new.lines (Read c.in-Err.stop)
    (line_stopped g.S.Source.left g.S.Source.faults g.S.Source.same g.met.S.Source.same_at_once g.met.S.Source.same_later missing_at c.args.lines.now c.next_record_line.new.lines c.in-Err.stop refl refl c.in-Err.ensures)
