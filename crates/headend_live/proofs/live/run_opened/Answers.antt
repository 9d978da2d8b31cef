use Rattle.std.proofs.Common.{◌≡◌, ◌+◌, ◌∙◌, List, ℕ, sym, ap, subst, rules}
use Rattle.guide_board.specs.declared.post.Post.{Post}
use Rattle.headend_jobs.specs.Jobs.{streams}
use Rattle.headend_jobs.specs.Posting.{posts_of}
use Rattle.headend_jobs.specs.Ran.{HallRan, taken}
use Rattle.headend_live.specs.Viewing.{AreViewed, asked_for}
use Rattle.headend_live.proofs.Viewed.{views_asked, views_ready}
use Rattle.headend_live.proofs.Watching.{log_heard, watched_ran}
use Rattle.headend_live.proofs.live.run_opened.Goals as goal

pub returns-in-Ok-clause-ran : goal.returns-in-Ok-clause-ran
returns-in-Ok-clause-ran g c =
    let o = c.requires.opened in
    let opened = c.args.opened in
    let plan = opened.plan in
    let end = c.in-Ok.end in
    let e = c.in-Ok.ensures in
    let m = c.open-air.result in
    let n = c.run_hall.new.sender.air in
    let log = c.take_log-log in
    let told = c.observe-told in
    let st = streams g.F.Source.left g.F.Source.faults g.F.Source.same g.S.Source.left g.S.Source.faults g.S.Source.same in
    let feeds = c.args.inputs.feeds.items in
    let control = c.args.inputs.control in
    let last : n.air ≡ c.close-air.result = sym (c.close-air.ensures ∙ ap (λ w. w.air) c.close-monitor.ensures ∙ log.ensures.air) in
    let ran = subst (λ a. HallRan st opened.mux plan.cycles feeds control (taken g.A.Sink.written g.A.Sink.faults c.args.air a) end) last
    (subst (λ a. HallRan st opened.mux plan.cycles feeds control (taken g.A.Sink.written g.A.Sink.faults a n.air) end) c.open-air.ensures.air e.ran) in
    let asked = views_asked opened.mux opened.board c.run_hall.new.sender.board plan.cycles plan.views opened.jobs.items end.views.items o.opening o.services e.board.board o.jobs e.board.views in
    let heard = log_heard g.A.Sink.written g.A.Sink.same m n log.result plan.join c.args.air c.close-air.result c.open-air.ensures.taken e.same c.open-air.ensures.join c.open-air.ensures.air last log.ensures.dones log.ensures.receiver log.ensures.wanting in
    watched_ran st opened.mux plan feeds control (taken g.A.Sink.written g.A.Sink.faults c.args.air c.close-air.result) end log.result told.result ran heard told.ensures.told
    (λ none sent.
    subst (λ (l : List ℕ). AreViewed (posts_of opened.mux end.desk.entries) (plan.cycles + 1) l told.result.views.viewers told.result.views.lines) asked.1
    (subst (λ (l : List Post). AreViewed l (plan.cycles + 1) (asked_for end.views.items) told.result.views.viewers told.result.views.lines) (rw sent at e.board.posted)
    (told.ensures.viewed plan.cycles asked.0 none)))

pub returns-in-Ok-clause-same : goal.returns-in-Ok-clause-same
returns-in-Ok-clause-same g c =
    let n = c.run_hall.new.sender.air in
    let last : n.air ≡ c.close-air.result = sym (c.close-air.ensures ∙ ap (λ w. w.air) c.close-monitor.ensures ∙ c.take_log-log.ensures.air) in
    subst (λ a. g.A.Sink.same c.args.air a) last (subst (λ a. g.A.Sink.same a n.air) c.open-air.ensures.air c.in-Ok.ensures.same.same_air)

pub returns-clause-same : goal.returns-clause-same
returns-clause-same g c =
    let sink = g.met.A.Sink g.world.𝓛 g.world.𝓜 g.world.𝓡 ((λ s x. x), (λ x. x), (λ x. x), λ x. x) in
    subst (λ a. g.A.Sink.same c.args.air a) (sym (search rules)) (sink.same_at_once c.args.air)

pub run_hall-requires-clause-fresh : goal.run_hall-requires-clause-fresh
run_hall-requires-clause-fresh g c κs within =
    let o = c.requires.opened in
    record { sound = o.sound; player_of = o.player_of; at_start = o.at_start; tally = o.tally; opening = o.opening }

pub run_hall-requires-clause-views : goal.run_hall-requires-clause-views
run_hall-requires-clause-views g c κs within =
    let o = c.requires.opened in
    views_ready c.args.opened.mux c.args.opened.board c.args.opened.plan.cycles c.args.opened.plan.views c.args.opened.jobs.items o.opening o.services o.jobs

pub observe-told-requires-clause-asked : goal.observe-told-requires-clause-asked
observe-told-requires-clause-asked g c =
    let o = c.requires.opened in
    let opened = c.args.opened in
    let e = c.in-Ok.ensures in
    let asked = views_asked opened.mux opened.board c.run_hall.new.sender.board opened.plan.cycles opened.plan.views opened.jobs.items c.in-Ok.end.views.items o.opening o.services e.board.board o.jobs e.board.views in
    (opened.plan.cycles, asked.0)
