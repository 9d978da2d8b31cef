use Rattle.std.proofs.Common.{ap, ◌∙◌}
use Rattle.si_causes.proofs.CauseFacts.{Appends-nothing, Rose-from}
use Rattle.epg_play.specs.Leaves.{status_for}
use Rattle.epg_report.specs.Told.{told}
use Rattle.epg_follow.proofs.NewRuns.{new_long, undescribed_run}
use Rattle.epg_follow.proofs.run.follow_new.Goals as goal

pub returns-in-Err-clause-leaves : goal.returns-in-Err-clause-leaves
returns-in-Err-clause-leaves g c = λ text tells.
    undescribed_run g.S.Source.left g.S.Source.faults g.S.Source.same c.args.lines.now c.read_mux.new.lines text c.in-Err.stop c.status_of.result c.end_idle.result
    (told g.A.Sink.written g.A.Sink.faults c.args.air.now c.args.air.now) (told g.R.Sink.written g.R.Sink.faults c.args.report.now c.end_idle.new.report) _ _
    c.requires.unread tells c.in-Err.ensures.read (c.status_of.ensures ∙ ap status_for c.mux_stop_of.ensures) c.end_idle.ensures.ended (λ t took. (Appends-nothing _, took))

pub returns-in-Ok-new_start-clause-leaves : goal.returns-in-Ok-new_start-clause-leaves
returns-in-Ok-new_start-clause-leaves g c = λ text tells.
    new_long c.args.keep g.S.Source.left g.S.Source.faults g.S.Source.same c.args.lines.now c.read_mux.new.lines c.follow_on.new.lines text c.in-Ok.mux c.in-Ok-new_start.start
    _ _ _ _ _ _ _ _ c.follow_on.result c.follow_on.ensures.known c.requires.unread tells c.in-Ok.ensures.read c.in-Ok-new_start.ensures c.follow_on.ensures.followed

pub returns-in-Ok-new_start-clause-met : goal.returns-in-Ok-new_start-clause-met
returns-in-Ok-new_start-clause-met g c =
    let met = c.follow_on.ensures.met in
    let read = c.in-Ok.ensures.read.reads in
    record {
      end = met.end;
      input_cause = λ e. Rose-from _ _ _ read.later (met.input_cause e);
      air_cause = met.air_cause;
      same = g.met.S.Source.same_later c.args.lines.now.source c.read_mux.new.lines.source c.follow_on.new.lines.source read.same met.same;
    }
