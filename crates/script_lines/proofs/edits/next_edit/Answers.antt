use Rattle.std.specs.Prelude.{Ok, Err}
use Rattle.input_lines.specs.Ahead.{Ahead, Row, on_line}
use Rattle.input_lines.proofs.LineReads.{read_said, read_then, read_unread, next_read, next_end, next_stopped}
use Rattle.script_lines.specs.Edits.{edit_from, with_items}
use Rattle.script_lines.proofs.EditFacts.{head_in}
use Rattle.script_lines.proofs.edits.next_edit.Goals as goal

pub returns-in-Ok-None-clause-reads : goal.returns-in-Ok-None-clause-reads
returns-in-Ok-None-clause-reads g c =
    let e = rw c.in-Ok-None.field-0-is at c.in-Ok-None.ensures in
    next_end g.S.Source.left g.S.Source.faults g.S.Source.same g.met.S.Source.same_at_once g.met.S.Source.same_later (λ (row : Row) (behind : Ahead). edit_from row.0 (head_in row.1) behind) c.args.lines.now c.next_record_line.new.lines e

pub returns-in-Err-clause-reads : goal.returns-in-Err-clause-reads
returns-in-Err-clause-reads g c =
    next_stopped g.S.Source.left g.S.Source.faults g.S.Source.same g.met.S.Source.same_at_once g.met.S.Source.same_later (λ (row : Row) (behind : Ahead). edit_from row.0 (head_in row.1) behind) c.args.lines.now c.next_record_line.new.lines c.in-Err.stop c.in-Err.ensures

pub returns-in-Err-head_on-clause-reads : goal.returns-in-Err-head_on-clause-reads
returns-in-Err-head_on-clause-reads g c =
    let n = c.in-Ok-Some.at in
    let line = c.line.result.now in
    let mid = c.next_record_line.new.lines in
    let e = rw c.in-Ok-Some.field-0-is at c.in-Ok-Some.ensures in
    next_read g.S.Source.left g.S.Source.faults g.S.Source.same g.met.S.Source.same_at_once g.met.S.Source.same_later (λ (row : Row) (behind : Ahead). edit_from row.0 (head_in row.1) behind) c.args.lines.now mid mid n line (Err c.in-Err-head_on.stop) c.line.ensures e
    (read_unread g.S.Source.left g.S.Source.faults g.S.Source.same g.met.S.Source.same_at_once g.met.S.Source.same_later (on_line n (head_in line)) with_items mid mid c.in-Err-head_on.stop
    (read_said g.S.Source.left g.S.Source.faults g.S.Source.same g.met.S.Source.same_at_once g.met.S.Source.same_later n (head_in line) mid (Err c.in-Err-head_on.stop) c.in-Err-head_on.ensures.says))

pub returns-in-Ok-with_items-clause-reads : goal.returns-in-Ok-with_items-clause-reads
returns-in-Ok-with_items-clause-reads g c =
    let n = c.in-Ok-Some.at in
    let line = c.line.result.now in
    let mid = c.next_record_line.new.lines in
    let e = rw c.in-Ok-Some.field-0-is at c.in-Ok-Some.ensures in
    next_read g.S.Source.left g.S.Source.faults g.S.Source.same g.met.S.Source.same_at_once g.met.S.Source.same_later (λ (row : Row) (behind : Ahead). edit_from row.0 (head_in row.1) behind) c.args.lines.now mid c.with_items.new.lines n line
    (Ok c.in-Ok-with_items.edit) c.line.ensures e
    (read_then g.S.Source.left g.S.Source.faults g.S.Source.same g.met.S.Source.same_at_once g.met.S.Source.same_later (on_line n (head_in line)) with_items mid mid c.with_items.new.lines c.in-Ok.head (Ok c.in-Ok-with_items.edit)
    (read_said g.S.Source.left g.S.Source.faults g.S.Source.same g.met.S.Source.same_at_once g.met.S.Source.same_later n (head_in line) mid (Ok c.in-Ok.head) c.in-Ok.ensures.says) c.in-Ok-with_items.ensures.reads)

pub returns-in-Err-with_items-clause-reads : goal.returns-in-Err-with_items-clause-reads
returns-in-Err-with_items-clause-reads g c =
    let n = c.in-Ok-Some.at in
    let line = c.line.result.now in
    let mid = c.next_record_line.new.lines in
    let e = rw c.in-Ok-Some.field-0-is at c.in-Ok-Some.ensures in
    next_read g.S.Source.left g.S.Source.faults g.S.Source.same g.met.S.Source.same_at_once g.met.S.Source.same_later (λ (row : Row) (behind : Ahead). edit_from row.0 (head_in row.1) behind) c.args.lines.now mid c.with_items.new.lines n line
    (Err c.in-Err-with_items.stop) c.line.ensures e
    (read_then g.S.Source.left g.S.Source.faults g.S.Source.same g.met.S.Source.same_at_once g.met.S.Source.same_later (on_line n (head_in line)) with_items mid mid c.with_items.new.lines c.in-Ok.head (Err c.in-Err-with_items.stop)
    (read_said g.S.Source.left g.S.Source.faults g.S.Source.same g.met.S.Source.same_at_once g.met.S.Source.same_later n (head_in line) mid (Ok c.in-Ok.head) c.in-Ok.ensures.says) c.in-Err-with_items.ensures.reads)
