use Rattle.std.proofs.Common.{◌≡◌, ◌≤◌, ◌∙◌, length, List, Option, ℕ, Ok, None, refl, sym, ap, subst, string_bytes, arith}
use Rattle.std.proofs.lemmas.List.{length-map}
use Rattle.si_causes.specs.Causes.{Rose}
use Rattle.mux_config.specs.Reads.{ReadMux}
use Rattle.mux_config.proofs.Reading.{read_sound}
use Rattle.command_words.specs.Commands.{texts}
use Rattle.headend_jobs.specs.Jobs.{streams}
use Rattle.std.specs.List.{AllByRecursion}
use Rattle.headend_live.specs.declared.live.LivePlan.{LivePlan}
use Rattle.headend_live.specs.Viewing.{IsServiceOf}
use Rattle.epg_report.specs.declared.status.Status.{Status}
use Rattle.epg_report.specs.Told.{asked, gave, told}
use Rattle.epg_live.specs.declared.reporting.LiveResult.{LiveResult}
use Rattle.epg_live.specs.Met.{LiveMet, none_ran}
use Rattle.epg_live.specs.Opened.{HasTried, IfFailed}
use Rattle.epg_live.specs.Views.{plan_of, unserved}
use Rattle.epg_live.proofs.OpenFacts.{opened_length}
use Rattle.epg_live.proofs.RanFacts.{jobs_met, told_of, watched_same}
use Rattle.epg_live.proofs.ViewFacts.{all_served}
use Rattle.epg_live.proofs.run.run_described.Goals as goal

pub returns-in-Err-clause-met : goal.returns-in-Err-clause-met
returns-in-Err-clause-met g c =
    let paths = texts c.args.words.now.feeds.items in
    let plan = plan_of c.args.words.now in
    let opener = asked g.O.Opener.files g.O.Opener.tried g.O.Opener.faults g.O.Opener.read_faults c.args.opener.now c.begin.new.opener in
    let air = told g.A.Sink.written g.A.Sink.faults c.args.air.now c.args.air.now in
    subst (λ (run : LiveResult). LiveMet paths plan opener (gave g.S.Source.left g.S.Source.faults c.args.lines.source c.close-source.result) air run) (sym c.none-run.ensures)
    (subst (λ s. LiveMet paths plan opener (gave g.S.Source.left g.S.Source.faults c.args.lines.source s) air (none_ran c.in-Err.met)) (sym c.close-source.ensures)
    (c.in-Err.ensures.stopped air refl))

pub returns-in-Err-clause-same : goal.returns-in-Err-clause-same
returns-in-Err-clause-same g c = subst (λ s. g.S.Source.same c.args.lines.source s) (sym c.close-source.ensures) c.begin.ensures.kept.1

pub returns-clause-met : goal.returns-clause-met
returns-clause-met g c =
    let paths = texts c.args.words.now.feeds.items in
    let old = c.args.opener.now in
    let mid = c.begin.new.opener in
    let new = c.close_feeds.new.opener in
    let begun = c.in-Ok.begun in
    let e = c.in-Ok.ensures in
    let end = c.in_ok-end.end in
    let opener = asked g.O.Opener.files g.O.Opener.tried g.O.Opener.faults g.O.Opener.read_faults old new in
    let air = told g.A.Sink.written g.A.Sink.faults c.args.air.now c.run_live.new.air in
    let served : unserved begun.mux begun.plan.views ≡ None = ap (λ (p : LivePlan). unserved begun.mux p.views) e.plan ∙ e.served in
    let rose = subst (λ (n : ℕ). IfFailed g.O.From.Source.faults (Rose n (g.O.Opener.read_faults new)) end.feeds.items) e.kept.0 c.close_feeds.ensures.closes.rose in
    let met = jobs_met (streams g.O.From.Source.left g.O.From.Source.faults g.O.From.Source.same g.S.Source.left g.S.Source.faults g.S.Source.same) begun.mux begun.plan begun.feeds.items c.begin.new.lines paths opener
    c.args.lines.source air end c.in_ok-end.ensures.ran (subst (λ r. ReadMux g.S.Source.left g.S.Source.faults g.S.Source.same r c.begin.new.lines (Ok begun.mux)) c.requires.unread e.read)
    e.opened.opened (subst (λ (o : Option (List (List ℕ))). HasTried (g.O.Opener.tried old) o paths) (sym c.close_feeds.ensures.tried) e.opened.tried) rose served in
    subst (λ (p : LivePlan). LiveMet paths p opener (gave g.S.Source.left g.S.Source.faults c.args.lines.source c.close-source-2.result) air (record (told_of begun.mux end) { met = c.live_status-met.result })) e.plan
    (subst (λ s. LiveMet paths begun.plan opener (gave g.S.Source.left g.S.Source.faults c.args.lines.source s) air (record (told_of begun.mux end) { met = c.live_status-met.result })) (sym c.close-source-2.ensures)
    (subst (λ (s : Status). LiveMet paths begun.plan opener (gave g.S.Source.left g.S.Source.faults c.args.lines.source end.control.source) air (record (told_of begun.mux end) { met = s })) (sym c.live_status-met.ensures) met))

pub returns-clause-same : goal.returns-clause-same
returns-clause-same g c =
    let e = c.in-Ok.ensures in
    let end = c.in_ok-end.end in
    let source = g.met.S.Source g.world.𝓛 g.world.𝓜 g.world.𝓡 ((λ s x. x), (λ x. x), (λ x. x), λ x. x) in
    subst (λ s. g.S.Source.same c.args.lines.source s) (sym c.close-source-2.ensures)
    (source.same_later _ _ _ c.begin.ensures.kept.1 (watched_same _ _ _ _ _ _ end c.in_ok-end.ensures.ran))

pub run_live-requires-clause-sound : goal.run_live-requires-clause-sound
run_live-requires-clause-sound g c κs within =
    read_sound g.S.Source.left g.S.Source.faults g.S.Source.same c.args.lines c.begin.new.lines (Ok c.in-Ok.begun.mux) c.in-Ok.ensures.read

pub run_live-requires-clause-few : goal.run_live-requires-clause-few
run_live-requires-clause-few g c κs within =
    let items = c.args.words.now.feeds.items in
    let feeds = c.in-Ok.begun.feeds.items in
    let readers : length feeds ≡ length (texts items) = opened_length g.O.From.Source.left g.O.From.Source.faults (g.O.Opener.files c.args.opener.now) (texts items) feeds c.in-Ok.ensures.opened.opened in
    omega (arith, readers, length-map items string_bytes, c.requires.few)

pub run_live-requires-clause-views : goal.run_live-requires-clause-views
run_live-requires-clause-views g c κs within =
    let e = c.in-Ok.ensures in
    subst (λ (p : LivePlan). (length p.views ≤ 8) × AllByRecursion (IsServiceOf c.in-Ok.begun.mux) p.views) (sym e.plan)
    (c.requires.views, all_served c.in-Ok.begun.mux c.args.words.now.views e.served)
