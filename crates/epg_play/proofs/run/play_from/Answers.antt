use Rattle.std.proofs.Common.{◌≡◌, refl, sym, ap, ◌∙◌, subst, inl, inr}
use Rattle.epg_play.specs.Leaves.{status_for}
use Rattle.si_causes.specs.Opening.{Tries}
use Rattle.epg_play.specs.Courses.{BeganAt, BegunFrom, NotPlayed}
use Rattle.epg_play.specs.Over.{LeavesOver}
use Rattle.epg_play.proofs.PlayedFacts.{first_within, played_over, refused_over, undescribed_over}
use Rattle.si_causes.proofs.CauseFacts.{Rose-from}
use Rattle.epg_play.proofs.run.play_from.Goals as goal

pub returns-in-Err-clause-played : goal.returns-in-Err-clause-played
returns-in-Err-clause-played g c = λ text tells files has.
    let limit = c.args.lines.now.limit in
    let w = g.A.Sink.written c.args.air.now in
    let path = c.args.path.now in
    let tried_before = g.O.Opener.tried c.args.opener.now in
    let tried = tried_before in
    let played = c.not_played.result in
    let new = c.read_mux.new.lines in
    let met = c.not_played.ensures.met ∙ c.status_of.ensures ∙ ap status_for c.mux_stop_of.ensures in
    subst (LeavesOver limit (λ s. (tried ≡ tried_before) × NotPlayed w w played) (λ mux lines s. Tries tried_before tried path × BegunFrom c.args.fold path files w w played mux lines s) text (g.S.Source.left new.source)) (sym met)
    (undescribed_over limit g.S.Source.left g.S.Source.faults g.S.Source.same c.args.lines.now new c.args.lines.now.source text c.in-Err.stop
    (λ s. (tried ≡ tried_before) × NotPlayed w w played) (λ mux lines s. Tries tried_before tried path × BegunFrom c.args.fold path files w w played mux lines s) c.requires.unread tells c.in-Err.ensures.read
    (refl, record { no_course = c.not_played.ensures.course; air = refl }))

pub returns-in-Ok-start_at-clause-played : goal.returns-in-Ok-start_at-clause-played
returns-in-Ok-start_at-clause-played g c = λ text tells files has.
    let limit = c.args.lines.now.limit in
    let before = g.A.Sink.written c.args.air.now in
    let now = g.A.Sink.written c.play_on.new.air in
    let path = c.args.path.now in
    let tried_before = g.O.Opener.tried c.args.opener.now in
    let tried = g.O.Opener.tried c.start_at.new.opener in
    let played = c.play_on.result in
    let mid = c.read_mux.new.lines in
    let source = c.args.lines.now.source in
    let read = first_within limit g.S.Source.left g.S.Source.faults g.S.Source.same c.args.lines.now mid source text c.in-Ok.mux c.requires.unread tells c.in-Ok.ensures.read in
    played_over limit g.S.Source.left source mid c.play_on.new.lines text c.in-Ok.mux tells read.0 read.1 c.args.fold c.in-Ok-start_at.start (BeganAt path files c.in-Ok.mux)
    (record { begins = c.in-Ok-start_at.ensures.begins files has; is = c.in-Ok-start_at.ensures.start }) before now played c.play_on.ensures.played
    (λ s. (tried ≡ tried_before) × NotPlayed before now played) (λ mux lines s. Tries tried_before tried path × BegunFrom c.args.fold path files before now played mux lines s) (λ lines course. (c.in-Ok-start_at.ensures.tried, inr course))

pub returns-in-Err-start_at-clause-played : goal.returns-in-Err-start_at-clause-played
returns-in-Err-start_at-clause-played g c = λ text tells files has.
    let limit = c.args.lines.now.limit in
    let w = g.A.Sink.written c.args.air.now in
    let path = c.args.path.now in
    let tried_before = g.O.Opener.tried c.args.opener.now in
    let tried = g.O.Opener.tried c.start_at.new.opener in
    let played = c.not_played-in-Err-start_at.result in
    let mid = c.read_mux.new.lines in
    let source = c.args.lines.now.source in
    let begun = c.in-Err-start_at in
    let read = first_within limit g.S.Source.left g.S.Source.faults g.S.Source.same c.args.lines.now mid source text c.in-Ok.mux c.requires.unread tells c.in-Ok.ensures.read in
    subst (LeavesOver limit (λ s. (tried ≡ tried_before) × NotPlayed w w played) (λ mux lines s. Tries tried_before tried path × BegunFrom c.args.fold path files w w played mux lines s) text (g.S.Source.left mid.source)) (sym c.not_played-in-Err-start_at.ensures.met)
    (refused_over limit g.S.Source.left source mid text (g.S.Source.left mid.source) c.in-Ok.mux read.0
    (λ s. (tried ≡ tried_before) × NotPlayed w w played) (λ mux lines s. Tries tried_before tried path × BegunFrom c.args.fold path files w w played mux lines s) begun.met begun.ensures.known
    (begun.ensures.tried, inl (begun.ensures.begins files has, begun.ensures.known, record { no_course = c.not_played-in-Err-start_at.ensures.course; air = refl })))

pub returns-in-Ok-start_at-clause-met : goal.returns-in-Ok-start_at-clause-met
returns-in-Ok-start_at-clause-met g c =
    let met = c.play_on.ensures.met in
    let read = c.in-Ok.ensures.read.reads in
    record {
      end = met.end;
      input_cause = λ e. Rose-from _ _ _ read.later (met.input_cause e);
      air_cause = met.air_cause;
      same = g.met.S.Source.same_later c.args.lines.now.source c.read_mux.new.lines.source c.play_on.new.lines.source read.same met.same;
    }
