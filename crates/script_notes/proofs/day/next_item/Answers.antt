use Rattle.std.proofs.Common.{◌+◌, ap}
use Rattle.script_notes.proofs.ItemReads.{item_missing, item_read, item_stopped}
use Rattle.script_notes.proofs.day.next_item.Goals as goal

pub returns-in-Ok-Some-clause-reads : goal.returns-in-Ok-Some-clause-reads
returns-in-Ok-Some-clause-reads g c =
    let e = rw c.in-Ok-Some.field-0-is at c.in-Ok-Some.ensures in
    item_read g.S.Source.left g.S.Source.faults g.S.Source.same g.met.S.Source.same_at_once g.met.S.Source.same_later c.args.lines.now c.next_record_line.new.lines c.in-Ok-Some.at c.line.result.now c.read_item.result
    c.requires.going e c.line.ensures c.read_item.ensures.says

pub returns-in-Ok-None-clause-reads : goal.returns-in-Ok-None-clause-reads
returns-in-Ok-None-clause-reads g c =
    let e = rw c.in-Ok-None.field-0-is at c.in-Ok-None.ensures in
    item_missing g.S.Source.left g.S.Source.faults g.S.Source.same g.met.S.Source.same_at_once g.met.S.Source.same_later c.args.lines.now c.next_record_line.new.lines _ (ap (λ n. n + 1) c.number.ensures.value) e

pub returns-in-Err-clause-reads : goal.returns-in-Err-clause-reads
returns-in-Err-clause-reads g c =
    item_stopped g.S.Source.left g.S.Source.faults g.S.Source.same g.met.S.Source.same_at_once g.met.S.Source.same_later c.args.lines.now c.next_record_line.new.lines c.in-Err.stop c.requires.going c.in-Err.ensures
