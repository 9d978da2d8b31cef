use Rattle.std.proofs.Common.{◌<◌, ◌≤◌, Bool, ℕ, refl, arith}
use Rattle.std.specs.Prelude.{Ok, Err, Result, OnOk}
use Rattle.si_causes.specs.Reading.{room}
use Rattle.input_lines.specs.declared.stop.EditStop.{EditStop}
use Rattle.input_lines.specs.declared.stop.EditStop.TheVariants.{NoCommand, Read}
use Rattle.input_lines.specs.Fields.{record_of}
use Rattle.input_lines.specs.Ahead.{Ahead, Found, Row, and_then, first_row, missing_at, on_line}
use Rattle.input_lines.proofs.LineReads.{line_read, line_missing, line_stopped, read_said, read_then, read_unread}
use Rattle.desk_checkpoint.specs.Reads.{NumberedPart, part_on}
use Rattle.desk_checkpoint.proofs.parts.next_part.Goals as goal

abbrev body : Bool → Row → Ahead → Found NumberedPart
body step_may row behind = and_then (on_line row.0 (record_of row.1) behind) (λ fields more. part_on step_may row.0 fields more)

pub returns-in-Ok-None-clause-reads : goal.returns-in-Ok-None-clause-reads
returns-in-Ok-None-clause-reads g c =
    let e = rw c.in-Ok-None.field-0-is at c.in-Ok-None.ensures in
    read_unread g.S.Source.left g.S.Source.faults g.S.Source.same g.met.S.Source.same_at_once g.met.S.Source.same_later (first_row missing_at) (body c.args.step_may) c.args.lines.now c.next_record_line.new.lines (NoCommand _)
    (line_missing g.S.Source.left g.S.Source.faults g.S.Source.same g.met.S.Source.same_at_once g.met.S.Source.same_later c.args.lines.now c.next_record_line.new.lines _ (omega (arith, c.number.ensures.value)) e)

pub returns-in-Err-clause-reads : goal.returns-in-Err-clause-reads
returns-in-Err-clause-reads g c =
    read_unread g.S.Source.left g.S.Source.faults g.S.Source.same g.met.S.Source.same_at_once g.met.S.Source.same_later (first_row missing_at) (body c.args.step_may) c.args.lines.now c.next_record_line.new.lines (Read c.in-Err.stop)
    (line_stopped g.S.Source.left g.S.Source.faults g.S.Source.same g.met.S.Source.same_at_once g.met.S.Source.same_later missing_at c.args.lines.now c.next_record_line.new.lines c.in-Err.stop refl refl c.in-Err.ensures)

pub returns-in-Ok-clause-reads : goal.returns-in-Ok-clause-reads
returns-in-Ok-clause-reads g c =
    let n = c.in-Ok-Some.at in
    let line = c.line.result.now in
    let mid = c.next_record_line.new.lines in
    let e = rw c.in-Ok-Some.field-0-is at c.in-Ok-Some.ensures in
    read_then g.S.Source.left g.S.Source.faults g.S.Source.same g.met.S.Source.same_at_once g.met.S.Source.same_later (first_row missing_at) (body c.args.step_may) c.args.lines.now mid c.part_on.new.lines (n, line) c.part_on.result
    (line_read g.S.Source.left g.S.Source.faults g.S.Source.same g.met.S.Source.same_at_once g.met.S.Source.same_later missing_at c.args.lines.now mid n line refl c.line.ensures e)
    (read_then g.S.Source.left g.S.Source.faults g.S.Source.same g.met.S.Source.same_at_once g.met.S.Source.same_later (on_line n (record_of line)) (λ fields more. part_on c.args.step_may n fields more) mid mid c.part_on.new.lines _ c.part_on.result
    (read_said g.S.Source.left g.S.Source.faults g.S.Source.same g.met.S.Source.same_at_once g.met.S.Source.same_later n (record_of line) mid (Ok _) c.in-Ok.ensures.says) c.part_on.ensures.reads)

pub returns-in-Err-fields_on-clause-reads : goal.returns-in-Err-fields_on-clause-reads
returns-in-Err-fields_on-clause-reads g c =
    let n = c.in-Ok-Some.at in
    let line = c.line.result.now in
    let mid = c.next_record_line.new.lines in
    let e = rw c.in-Ok-Some.field-0-is at c.in-Ok-Some.ensures in
    read_then g.S.Source.left g.S.Source.faults g.S.Source.same g.met.S.Source.same_at_once g.met.S.Source.same_later (first_row missing_at) (body c.args.step_may) c.args.lines.now mid mid (n, line) (Err c.in-Err-fields_on.stop)
    (line_read g.S.Source.left g.S.Source.faults g.S.Source.same g.met.S.Source.same_at_once g.met.S.Source.same_later missing_at c.args.lines.now mid n line refl c.line.ensures e)
    (read_unread g.S.Source.left g.S.Source.faults g.S.Source.same g.met.S.Source.same_at_once g.met.S.Source.same_later (on_line n (record_of line)) (λ fields more. part_on c.args.step_may n fields more) mid mid c.in-Err-fields_on.stop
    (read_said g.S.Source.left g.S.Source.faults g.S.Source.same g.met.S.Source.same_at_once g.met.S.Source.same_later n (record_of line) mid (Err c.in-Err-fields_on.stop) c.in-Err-fields_on.ensures.says))

part_falls : {T : Type 0} (r : Result T EditStop) (a b c : ℕ) → b < a → OnOk r (c ≤ b) → OnOk r (c < a)
part_falls (Ok value) a b c less le = omega (arith, less, le)
part_falls (Err stop) a b c less le = tt

pub returns-in-Ok-clause-falls : goal.returns-in-Ok-clause-falls
returns-in-Ok-clause-falls g c =
    let e = rw c.in-Ok-Some.field-0-is at c.in-Ok-Some.ensures in
    part_falls c.part_on.result (room c.args.lines.now) (room c.next_record_line.new.lines) (room c.part_on.new.lines) e.falls.1 c.part_on.ensures.reads.goes_on
