use Rattle.std.specs.Prelude.{Some}
use Rattle.input_lines.specs.declared.stop.EditStop.TheVariants.{Memory}
use Rattle.script_lines.specs.Edits.{first_edit, edits_ahead}
use Rattle.desk_hall.specs.Reads.{edit_step, stream}
use Rattle.desk_hall.proofs.Ahead.{edits_on}
use Rattle.desk_hall.proofs.Reading.{going_none, going_more, read_end, read_stop, read_want, stays_going, went}
use Rattle.desk_hall.proofs.hall.Hall.feed.Goals as goal

pub edits-init : goal.edits-init
edits-init g c =
    going_none (stream g.F.Source.left g.F.Source.faults g.F.Source.same) first_edit edits_ahead edits_on (edit_step c.args.feed) c.args.lines.now c.args.pass.now (g.met.F.Source.same_at_once c.args.lines.now.source)

pub edits-preserved : goal.edits-preserved
edits-preserved g c =
    let e = rw c.in-Ok-Some.field-0-is at c.in-Ok-Some.ensures in
    going_more (stream g.F.Source.left g.F.Source.faults g.F.Source.same) first_edit edits_ahead edits_on (edit_step c.args.feed) g.met.F.Source.same_later c.args.lines.now c.edits.lines c.next_edit.new.lines c.args.pass.now c.edits.pass c.edit.new.pass c.edits.invariant
    c.in-Ok-Some.edit _ e.reads c.in-Ok.ensures.made

pub returns-in-Ok-None-clause-read : goal.returns-in-Ok-None-clause-read
returns-in-Ok-None-clause-read g c =
    let e = rw c.in-Ok-None.field-0-is at c.in-Ok-None.ensures in
    read_end (stream g.F.Source.left g.F.Source.faults g.F.Source.same) first_edit edits_ahead edits_on (edit_step c.args.feed) g.met.F.Source.same_later c.args.lines.now c.edits.lines c.next_edit.new.lines c.args.pass.now c.edits.pass c.edits.pass c.edits.invariant e.reads

pub returns-in-Err-edit-clause-read : goal.returns-in-Err-edit-clause-read
returns-in-Err-edit-clause-read g c =
    let e = rw c.in-Ok-Some.field-0-is at c.in-Ok-Some.ensures in
    read_want (stream g.F.Source.left g.F.Source.faults g.F.Source.same) first_edit edits_ahead edits_on (edit_step c.args.feed) g.met.F.Source.same_later c.args.lines.now c.edits.lines c.next_edit.new.lines c.args.pass.now c.edits.pass c.edit.new.pass c.edits.invariant
    c.in-Ok-Some.edit e.reads c.in-Err-edit.ensures.memory

pub returns-in-Err-edit-clause-sticky : goal.returns-in-Err-edit-clause-sticky
returns-in-Err-edit-clause-sticky g c =
    let e = rw c.in-Ok-Some.field-0-is at c.in-Ok-Some.ensures in
    stays_going c.args.lines.now.stop (Some Memory) c.args.lines.now c.next_edit.new.lines c.args.pass.now c.edit.new.pass
    (went (stream g.F.Source.left g.F.Source.faults g.F.Source.same) first_edit edits_ahead edits_on (edit_step c.args.feed) g.met.F.Source.same_later c.args.lines.now c.edits.lines c.next_edit.new.lines c.args.pass.now c.edits.pass c.edits.pass c.edits.invariant c.in-Ok-Some.edit e.reads)

pub returns-in-Err-clause-read : goal.returns-in-Err-clause-read
returns-in-Err-clause-read g c =
    read_stop (stream g.F.Source.left g.F.Source.faults g.F.Source.same) first_edit edits_ahead edits_on (edit_step c.args.feed) g.met.F.Source.same_later c.args.lines.now c.edits.lines c.next_edit.new.lines c.args.pass.now c.edits.pass c.edits.pass c.edits.invariant c.in-Err.stop c.in-Err.ensures.reads
