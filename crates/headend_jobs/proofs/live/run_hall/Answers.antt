use Rattle.std.proofs.Common.{subst, sym}
use Rattle.mux_model.specs.Sound.{IsSound}
use Rattle.headend_jobs.specs.Crews.{IsCrew}
use Rattle.headend_jobs.proofs.HallFacts.{board_ran, can_end, hall_ran, others_ready, player_ready}
use Rattle.headend_jobs.specs.Jobs.{streams}
use Rattle.headend_jobs.proofs.live.run_hall.Goals as goal

pub open-requires-clause-sound : goal.open-requires-clause-sound
open-requires-clause-sound g c = subst IsSound (sym c.in_ok-mux.ensures) c.requires.fresh.sound

pub run_side_by_side-requires-clause-player : goal.run_side_by_side-requires-clause-player
run_side_by_side-requires-clause-player g c κs within =
    player_ready c.args.cycles c.args.inputs.feeds.items c.args.inputs.control c.args.views.items c.args.sender.now c.in_ok-crew.crew c.requires.fresh
    (subst (λ m. IsCrew m c.args.cycles c.args.inputs.feeds.items c.args.inputs.control c.args.views.items c.in_ok-crew.crew) c.in_ok-mux.ensures c.in_ok-crew.ensures) c.requires.cycles

pub run_side_by_side-requires-clause-others : goal.run_side_by_side-requires-clause-others
run_side_by_side-requires-clause-others g c κs within =
    others_ready c.args.cycles c.args.inputs.feeds.items c.args.inputs.control c.args.views.items c.args.sender.now c.in_ok-crew.crew c.requires.fresh
    (subst (λ m. IsCrew m c.args.cycles c.args.inputs.feeds.items c.args.inputs.control c.args.views.items c.in_ok-crew.crew) c.in_ok-mux.ensures c.in_ok-crew.ensures) c.requires.views

pub end-requires-after_bounds : goal.end-requires-after_bounds
end-requires-after_bounds g c κs within =
    let r = c.run_side_by_side in
    let st = streams g.F.Source.left g.F.Source.faults g.F.Source.same g.S.Source.left g.S.Source.faults g.S.Source.same in
    can_end st g.A.Sink.written g.A.Sink.faults g.A.Sink.same c.args.cycles c.args.inputs.feeds.items c.args.inputs.control c.args.views.items c.args.sender.now r.new.sender c.in_ok-crew.crew c.requires.fresh
    (subst (λ m. IsCrew m c.args.cycles c.args.inputs.feeds.items c.args.inputs.control c.args.views.items c.in_ok-crew.crew) c.in_ok-mux.ensures c.in_ok-crew.ensures)
    r.new.player r.new.others r.ensures.player r.ensures.others

pub returns-clause-ran : goal.returns-clause-ran
returns-clause-ran g c =
    let r = c.run_side_by_side in
    let st = streams g.F.Source.left g.F.Source.faults g.F.Source.same g.S.Source.left g.S.Source.faults g.S.Source.same in
    hall_ran st g.A.Sink.written g.A.Sink.faults g.A.Sink.same c.args.cycles c.args.inputs.feeds.items c.args.inputs.control c.args.views.items c.args.sender.now r.new.sender c.in_ok-crew.crew c.requires.fresh
    (subst (λ m. IsCrew m c.args.cycles c.args.inputs.feeds.items c.args.inputs.control c.args.views.items c.in_ok-crew.crew) c.in_ok-mux.ensures c.in_ok-crew.ensures)
    r.new.player r.new.others r.ensures.player r.ensures.others c.end.new.sender c.end.result c.end.ensures

pub returns-clause-board : goal.returns-clause-board
returns-clause-board g c =
    let r = c.run_side_by_side in
    let st = streams g.F.Source.left g.F.Source.faults g.F.Source.same g.S.Source.left g.S.Source.faults g.S.Source.same in
    board_ran st g.A.Sink.written g.A.Sink.faults g.A.Sink.same c.args.cycles c.args.inputs.feeds.items c.args.inputs.control c.args.views.items c.args.sender.now r.new.sender c.in_ok-crew.crew c.requires.fresh
    (subst (λ m. IsCrew m c.args.cycles c.args.inputs.feeds.items c.args.inputs.control c.args.views.items c.in_ok-crew.crew) c.in_ok-mux.ensures c.in_ok-crew.ensures)
    r.new.player r.new.others r.ensures.player r.ensures.others c.end.new.sender c.end.result c.end.ensures

pub returns-clause-same : goal.returns-clause-same
returns-clause-same g c = c.end.ensures.same_on _ c.run_side_by_side.ensures.player.played.air.same
