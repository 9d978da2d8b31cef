use Rattle.std.proofs.Common.{rules}
use Rattle.headend_jobs.specs.Jobs.{streams}
use Rattle.headend_jobs.specs.Ran.{taken}
use Rattle.headend_live.proofs.Watching.{end_kept, end_ran, end_sent}
use Rattle.headend_live.proofs.live.run_live.Goals as goal

pub returns-clause-ran : goal.returns-clause-ran
returns-clause-ran g c =
    let ran = c.run_opened-end in
    let o = c.in_ok-opened in
    end_ran (streams g.F.Source.left g.F.Source.faults g.F.Source.same g.S.Source.left g.S.Source.faults g.S.Source.same) g.A.Sink.written g.A.Sink.faults c.args.mux o.opened.mux c.args.plan o.opened.plan
    c.args.feeds.items c.args.control c.args.air.now ran.result.1.now _ ran.result.0 o.ensures.mux_is o.ensures.plan_is (search rules) ran.ensures.ran

pub returns-clause-sent : goal.returns-clause-sent
returns-clause-sent g c =
    let ran = c.run_opened-end in
    let o = c.in_ok-opened in
    let st = streams g.F.Source.left g.F.Source.faults g.F.Source.same g.S.Source.left g.S.Source.faults g.S.Source.same in
    end_sent st c.args.mux c.args.plan c.args.feeds.items c.args.control (taken g.A.Sink.written g.A.Sink.faults c.args.air.now _) ran.result.0 c.requires.sound
    (end_ran st g.A.Sink.written g.A.Sink.faults c.args.mux o.opened.mux c.args.plan o.opened.plan c.args.feeds.items c.args.control c.args.air.now ran.result.1.now _ ran.result.0
    o.ensures.mux_is o.ensures.plan_is (search rules) ran.ensures.ran)

pub returns-clause-memory : goal.returns-clause-memory
returns-clause-memory g c =
    let ran = c.run_opened-end in
    end_kept (λ s. s.now) ran.result.0 _ ran.result.1 _ (search rules) ran.ensures.memory
