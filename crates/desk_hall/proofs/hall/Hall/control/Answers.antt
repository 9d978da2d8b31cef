use Rattle.std.proofs.Common.{subst}
use Rattle.std.specs.Prelude.{Some}
use Rattle.input_lines.specs.declared.stop.EditStop.TheVariants.{Memory}
use Rattle.journal_model.specs.declared.step.Step.{Step}
use Rattle.script_lines.specs.Controls.{first_control}
use Rattle.desk_hall.specs.Reads.{control_step, controls_ahead, stream}
use Rattle.desk_hall.specs.Turn.{Made}
use Rattle.desk_hall.proofs.Ahead.{controls_on}
use Rattle.desk_hall.proofs.Reading.{going_none, going_more, read_end, read_stop, read_want, stays_going, went}
use Rattle.desk_hall.proofs.hall.Hall.control.Goals as goal

pub controls-init : goal.controls-init
controls-init g c =
    going_none (stream g.S.Source.left g.S.Source.faults g.S.Source.same) first_control controls_ahead controls_on control_step c.args.lines.now c.args.pass.now (g.met.S.Source.same_at_once c.args.lines.now.source)

pub controls-preserved : goal.controls-preserved
controls-preserved g c =
    let e = rw c.in-Ok-Some.field-0-is at c.in-Ok-Some.ensures in
    going_more (stream g.S.Source.left g.S.Source.faults g.S.Source.same) first_control controls_ahead controls_on control_step g.met.S.Source.same_later c.args.lines.now c.controls.lines c.next_control.new.lines c.args.pass.now c.controls.pass c.step.new.pass c.controls.invariant
    c.in-Ok-Some.control c.in-Ok.field-0 e.reads (subst (λ (s : Step). Made s c.in-Ok.field-0 c.controls.pass c.step.new.pass) c.step_of.ensures.step c.in-Ok.ensures.made)

pub returns-in-Ok-None-clause-read : goal.returns-in-Ok-None-clause-read
returns-in-Ok-None-clause-read g c =
    let e = rw c.in-Ok-None.field-0-is at c.in-Ok-None.ensures in
    read_end (stream g.S.Source.left g.S.Source.faults g.S.Source.same) first_control controls_ahead controls_on control_step g.met.S.Source.same_later c.args.lines.now c.controls.lines c.next_control.new.lines c.args.pass.now c.controls.pass c.controls.pass c.controls.invariant e.reads

pub returns-in-Err-step-clause-read : goal.returns-in-Err-step-clause-read
returns-in-Err-step-clause-read g c =
    let e = rw c.in-Ok-Some.field-0-is at c.in-Ok-Some.ensures in
    read_want (stream g.S.Source.left g.S.Source.faults g.S.Source.same) first_control controls_ahead controls_on control_step g.met.S.Source.same_later c.args.lines.now c.controls.lines c.next_control.new.lines c.args.pass.now c.controls.pass c.step.new.pass c.controls.invariant
    c.in-Ok-Some.control e.reads c.in-Err-step.ensures.memory

pub returns-in-Err-step-clause-sticky : goal.returns-in-Err-step-clause-sticky
returns-in-Err-step-clause-sticky g c =
    let e = rw c.in-Ok-Some.field-0-is at c.in-Ok-Some.ensures in
    stays_going c.args.lines.now.stop (Some Memory) c.args.lines.now c.next_control.new.lines c.args.pass.now c.step.new.pass
    (went (stream g.S.Source.left g.S.Source.faults g.S.Source.same) first_control controls_ahead controls_on control_step g.met.S.Source.same_later c.args.lines.now c.controls.lines c.next_control.new.lines c.args.pass.now c.controls.pass c.controls.pass c.controls.invariant c.in-Ok-Some.control e.reads)

pub returns-in-Err-clause-read : goal.returns-in-Err-clause-read
returns-in-Err-clause-read g c =
    read_stop (stream g.S.Source.left g.S.Source.faults g.S.Source.same) first_control controls_ahead controls_on control_step g.met.S.Source.same_later c.args.lines.now c.controls.lines c.next_control.new.lines c.args.pass.now c.controls.pass c.controls.pass c.controls.invariant c.in-Err.stop c.in-Err.ensures.reads
