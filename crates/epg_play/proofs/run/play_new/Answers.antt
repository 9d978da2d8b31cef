use Rattle.std.proofs.Common.{refl, sym, ap, ◌∙◌, subst}
use Rattle.epg_play.specs.Leaves.{status_for}
use Rattle.epg_play.specs.Beginning.{IsNew}
use Rattle.epg_play.specs.Courses.{CourseBehind, NotPlayed}
use Rattle.epg_play.specs.Over.{LeavesOver}
use Rattle.epg_play.proofs.PlayedFacts.{first_within, played_over, undescribed_over}
use Rattle.si_causes.proofs.CauseFacts.{Rose-from}
use Rattle.epg_play.proofs.run.play_new.Goals as goal

pub returns-in-Err-clause-played : goal.returns-in-Err-clause-played
returns-in-Err-clause-played g c = λ text tells.
    let limit = c.args.lines.now.limit in
    let w = g.A.Sink.written c.args.air.now in
    let played = c.not_played.result in
    let new = c.read_mux.new.lines in
    let met = c.not_played.ensures.met ∙ c.status_of.ensures ∙ ap status_for c.mux_stop_of.ensures in
    subst (LeavesOver limit (λ s. NotPlayed w w played) (λ mux lines s. CourseBehind c.args.fold (IsNew mux) w w played lines) text (g.S.Source.left new.source)) (sym met)
    (undescribed_over limit g.S.Source.left g.S.Source.faults g.S.Source.same c.args.lines.now new c.args.lines.now.source text c.in-Err.stop
    (λ s. NotPlayed w w played) (λ mux lines s. CourseBehind c.args.fold (IsNew mux) w w played lines) c.requires.unread tells c.in-Err.ensures.read
    (record { no_course = c.not_played.ensures.course; air = refl }))

pub returns-in-Ok-new_start-clause-played : goal.returns-in-Ok-new_start-clause-played
returns-in-Ok-new_start-clause-played g c = λ text tells.
    let limit = c.args.lines.now.limit in
    let before = g.A.Sink.written c.args.air.now in
    let now = g.A.Sink.written c.play_on.new.air in
    let played = c.play_on.result in
    let mid = c.read_mux.new.lines in
    let source = c.args.lines.now.source in
    let read = first_within limit g.S.Source.left g.S.Source.faults g.S.Source.same c.args.lines.now mid source text c.in-Ok.mux c.requires.unread tells c.in-Ok.ensures.read in
    played_over limit g.S.Source.left source mid c.play_on.new.lines text c.in-Ok.mux tells read.0 read.1 c.args.fold c.in-Ok-new_start.start (IsNew c.in-Ok.mux) c.in-Ok-new_start.ensures before now played c.play_on.ensures.played
    (λ s. NotPlayed before now played) (λ mux lines s. CourseBehind c.args.fold (IsNew mux) before now played lines) (λ lines course. course)

pub returns-in-Ok-new_start-clause-met : goal.returns-in-Ok-new_start-clause-met
returns-in-Ok-new_start-clause-met g c =
    let met = c.play_on.ensures.met in
    let read = c.in-Ok.ensures.read.reads in
    record {
      end = met.end;
      input_cause = λ e. Rose-from _ _ _ read.later (met.input_cause e);
      air_cause = met.air_cause;
      same = g.met.S.Source.same_later c.args.lines.now.source c.read_mux.new.lines.source c.play_on.new.lines.source read.same met.same;
    }
