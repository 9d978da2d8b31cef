use Rattle.std.proofs.Common.{◌∙◌, List, [], refl, sym, subst}
use Rattle.input_lines.proofs.LineReads.{ReadsOn, on_none}
use Rattle.mux_lines.specs.declared.record.Numbered.{Numbered}
use Rattle.mux_config.specs.Descriptions.{ended}
use Rattle.mux_config.specs.Reads.{Makes}
use Rattle.mux_config.proofs.Reading.{end_read, ended_read, from, line_fails, read_sound, stop_read, taken_more}
use Rattle.mux_config.proofs.read.read_mux.Goals as goal

pub lines-init : goal.lines-init
lines-init g c =
    subst (λ (records : List Numbered). ReadsOn g.S.Source.left g.S.Source.faults g.S.Source.same (from []) (from records) c.args.lines.now c.args.lines.now) (sym c.new-records.ensures.items)
    (on_none g.S.Source.left g.S.Source.faults g.S.Source.same g.met.S.Source.same_at_once g.met.S.Source.same_later (from []) (from []) c.args.lines.now (λ a. refl))

pub lines-preserved : goal.lines-preserved
lines-preserved g c =
    let e = rw c.in-Ok-Some.field-0-is at c.in-Ok-Some.ensures in
    taken_more g.S.Source.left g.S.Source.faults g.S.Source.same g.met.S.Source.same_at_once g.met.S.Source.same_later c.args.lines.now c.lines.lines c.next_record_line.new.lines c.lines.records.items
    c.in-Ok-Some.number c.line.result.now c.line.ensures c.lines.invariant e c.take_line.new.records.items (rw c.in-Ok-false.field-0-test at c.in-Ok-false.ensures)

pub returns-in-Ok-true : goal.returns-in-Ok-true
returns-in-Ok-true g c =
    let e = rw c.in-Ok-Some.field-0-is at c.in-Ok-Some.ensures in
    let took = rw c.in-Ok-true.field-0-test at c.in-Ok-true.ensures in
    let makes = subst (λ (records : List Numbered). Makes (ended records) c.multiplex.result) (c.deref.ensures.value ∙ took.2) c.multiplex.ensures in
    let read = ended_read g.S.Source.left g.S.Source.faults g.S.Source.same g.met.S.Source.same_at_once g.met.S.Source.same_later c.args.lines.now c.lines.lines c.next_record_line.new.lines c.lines.records.items
    c.in-Ok-Some.number c.line.result.now c.line.ensures c.lines.invariant e c.take_line.new.records.items c.multiplex.result took makes in
    record { read = read; sound = read_sound g.S.Source.left g.S.Source.faults g.S.Source.same c.args.lines.now c.next_record_line.new.lines c.multiplex.result read }

pub returns-in-Err-take_line-clause-read : goal.returns-in-Err-take_line-clause-read
returns-in-Err-take_line-clause-read g c =
    let e = rw c.in-Ok-Some.field-0-is at c.in-Ok-Some.ensures in
    line_fails g.S.Source.left g.S.Source.faults g.S.Source.same g.met.S.Source.same_at_once g.met.S.Source.same_later c.args.lines.now c.lines.lines c.next_record_line.new.lines c.lines.records.items
    c.in-Ok-Some.number c.line.result.now c.line.ensures c.lines.invariant e c.take_line.new.records.items c.in-Err-take_line.stop c.in-Err-take_line.ensures

pub returns-in-Ok-None-clause-read : goal.returns-in-Ok-None-clause-read
returns-in-Ok-None-clause-read g c =
    let e = rw c.in-Ok-None.field-0-is at c.in-Ok-None.ensures in
    end_read g.S.Source.left g.S.Source.faults g.S.Source.same g.met.S.Source.same_at_once g.met.S.Source.same_later c.args.lines.now c.lines.lines c.next_record_line.new.lines c.lines.records.items c.lines.invariant e

pub returns-in-Err-clause-read : goal.returns-in-Err-clause-read
returns-in-Err-clause-read g c =
    stop_read g.S.Source.left g.S.Source.faults g.S.Source.same g.met.S.Source.same_at_once g.met.S.Source.same_later c.args.lines.now c.lines.lines c.next_record_line.new.lines c.lines.records.items c.lines.invariant
    c.in-Err.stop c.in-Err.ensures
