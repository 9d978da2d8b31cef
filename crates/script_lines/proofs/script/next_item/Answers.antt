use Rattle.std.proofs.Common.{subst}
use Rattle.std.specs.Prelude.{Bool, Option, Result, Ok, Err}
use Rattle.input_lines.specs.Fields.{record_of}
use Rattle.input_lines.specs.Ahead.{Ahead, Found, Row, on_line}
use Rattle.input_lines.specs.Reads.{NextOf}
use Rattle.input_lines.specs.declared.stop.EditStop.{EditStop}
use Rattle.input_lines.proofs.LineReads.{read_said, read_then, read_unread, next_read, next_end, next_stopped}
use Rattle.script_lines.specs.declared.script.ScriptItem.{ScriptItem}
use Rattle.script_lines.specs.Script.{first_script_item, item_on, read_item}
use Rattle.script_lines.proofs.ScriptFacts.{item_is_next}
use Rattle.script_lines.proofs.script.next_item.Goals as goal

abbrev body : Bool → Row → Ahead → Found ScriptItem
body after row behind = item_on after row.0 (record_of row.1) behind

pub returns-in-Ok-None-clause-reads : goal.returns-in-Ok-None-clause-reads
returns-in-Ok-None-clause-reads g c =
    let e = rw c.in-Ok-None.field-0-is at c.in-Ok-None.ensures in
    next_end g.S.Source.left g.S.Source.faults g.S.Source.same g.met.S.Source.same_at_once g.met.S.Source.same_later (body c.args.after) c.args.lines.now c.next_record_line.new.lines e

pub returns-in-Err-clause-reads : goal.returns-in-Err-clause-reads
returns-in-Err-clause-reads g c = next_stopped g.S.Source.left g.S.Source.faults g.S.Source.same g.met.S.Source.same_at_once g.met.S.Source.same_later (body c.args.after) c.args.lines.now c.next_record_line.new.lines c.in-Err.stop c.in-Err.ensures

pub returns-in-Ok-clause-reads : goal.returns-in-Ok-clause-reads
returns-in-Ok-clause-reads g c =
    let n = c.in-Ok-Some.at in
    let line = c.line.result.now in
    let mid = c.next_record_line.new.lines in
    let e = rw c.in-Ok-Some.field-0-is at c.in-Ok-Some.ensures in
    subst (λ (r : Result (Option ScriptItem) EditStop). NextOf g.S.Source.left g.S.Source.faults g.S.Source.same (first_script_item c.args.after) c.args.lines.now c.item_on.new.lines r) (item_is_next c.item_on.result c.item_on.ensures.read)
    (next_read g.S.Source.left g.S.Source.faults g.S.Source.same g.met.S.Source.same_at_once g.met.S.Source.same_later (body c.args.after) c.args.lines.now mid c.item_on.new.lines n line c.item_on.result c.line.ensures e
    (read_then g.S.Source.left g.S.Source.faults g.S.Source.same g.met.S.Source.same_at_once g.met.S.Source.same_later (on_line n (record_of line)) (read_item c.args.after n) mid mid c.item_on.new.lines _ c.item_on.result
    (read_said g.S.Source.left g.S.Source.faults g.S.Source.same g.met.S.Source.same_at_once g.met.S.Source.same_later n (record_of line) mid (Ok _) c.in-Ok.ensures.says) c.item_on.ensures.reads))

pub returns-in-Err-fields_on-clause-reads : goal.returns-in-Err-fields_on-clause-reads
returns-in-Err-fields_on-clause-reads g c =
    let n = c.in-Ok-Some.at in
    let line = c.line.result.now in
    let mid = c.next_record_line.new.lines in
    let e = rw c.in-Ok-Some.field-0-is at c.in-Ok-Some.ensures in
    next_read g.S.Source.left g.S.Source.faults g.S.Source.same g.met.S.Source.same_at_once g.met.S.Source.same_later (body c.args.after) c.args.lines.now mid mid n line (Err c.in-Err-fields_on.stop) c.line.ensures e
    (read_unread g.S.Source.left g.S.Source.faults g.S.Source.same g.met.S.Source.same_at_once g.met.S.Source.same_later (on_line n (record_of line)) (read_item c.args.after n) mid mid c.in-Err-fields_on.stop
    (read_said g.S.Source.left g.S.Source.faults g.S.Source.same g.met.S.Source.same_at_once g.met.S.Source.same_later n (record_of line) mid (Err c.in-Err-fields_on.stop) c.in-Err-fields_on.ensures.says))
