use Rattle.std.proofs.Common.{◌∙◌, ap, arith, refl, rules, subst, sym}
use Rattle.std.specs.Prelude.{Err, Ok, Some}
use Rattle.mux_model.specs.Sound.{IsSound}
use Rattle.headend_jobs.specs.Posting.{HaveServicesOf}
use Rattle.headend_jobs.proofs.Posts.{keeps_self, keeps_then, posted_none, posted_then, services_kept}
use Rattle.headend_jobs.proofs.Running.{wrote_then}
use Rattle.headend_jobs.proofs.Swaps.{so_all, so_next, so_none, so_stop}
use Rattle.headend_jobs.proofs.sender.Sender.play.Goals as goal

pub swaps-init : goal.swaps-init
swaps-init g c =
    let s = c.args.self.now in
    record {
      mux = refl;
      so = so_none c.args.plan.ticking s.mux c.args.pass.now s.player (g.A.Sink.written s.air) c.requires.ready.stands c.requires.ready.ready;
      posted = posted_none s.mux c.args.pass.now c.args.pass.now s.board refl;
      board = keeps_self s.board;
      air = record { cause = tt; later = omega arith; same = g.met.A.Sink.same_at_once _ };
    }

pub swap_and_send-requires : goal.swap_and_send-requires
swap_and_send-requires g c =
    let i = c.swaps.invariant in
    let s = c.args.self.now in
    record {
      turns_are = i.so.turns ∙ c.requires.ready.turns_are;
      stands = i.so.stands ∙ ap Some (sym i.mux);
      sound = subst IsSound (sym i.mux) c.requires.ready.sound;
      served = subst (λ m. HaveServicesOf m c.swaps.self.board.posts) (sym i.mux) (services_kept s.mux s.board c.swaps.self.board i.board c.requires.ready.served);
      ready = i.so.ready;
    }

pub swaps-preserved : goal.swaps-preserved
swaps-preserved g c =
    let i = c.swaps.invariant in
    let s = c.args.self.now in
    let new = c.swap_and_send.new.self in
    record {
      mux = c.in-Ok.ensures.mux ∙ i.mux;
      so = so_next c.args.plan.ticking s.mux c.swaps.made _ c.args.pass.now c.swaps.pass c.swap_and_send.new.pass s.player c.swaps.self.player new.player (g.A.Sink.written s.air) (g.A.Sink.written c.swaps.self.air) (g.A.Sink.written new.air) tt (omega arith) i.so (rw i.mux at c.in-Ok.ensures.played);
      posted = posted_then s.mux c.args.pass.now c.swaps.pass c.swap_and_send.new.pass s.board c.swaps.self.board new.board i.posted (rw i.mux at c.in-Ok.ensures.posted);
      board = keeps_then s.board c.swaps.self.board new.board i.board c.in-Ok.ensures.board;
      air = wrote_then g.A.Sink.faults g.A.Sink.same g.met.A.Sink.same_later s.air c.swaps.self.air new.air (Ok tt) (Ok tt) i.air c.in-Ok.ensures.air;
    }

pub returns-in-Err : goal.returns-in-Err
returns-in-Err g c =
    let i = c.swaps.invariant in
    let s = c.args.self.now in
    let new = c.swap_and_send.new.self in
    record {
      mux = c.in-Err.ensures.mux ∙ i.mux;
      played = so_stop c.args.plan.ticking s.mux c.swaps.made c.args.plan.count c.args.pass.now c.swaps.pass c.swap_and_send.new.pass s.player c.swaps.self.player new.player (g.A.Sink.written s.air) (g.A.Sink.written c.swaps.self.air) (g.A.Sink.written new.air) c.in-Err.stop
          (search rules) i.so (rw i.mux at c.in-Err.ensures.played);
      ready = tt;
      posted = tt;
      board = keeps_then s.board c.swaps.self.board new.board i.board c.in-Err.ensures.board;
      air = wrote_then g.A.Sink.faults g.A.Sink.same g.met.A.Sink.same_later s.air c.swaps.self.air new.air (Ok tt) (Err c.in-Err.stop) i.air c.in-Err.ensures.air;
    }

pub returns : goal.returns
returns g c =
    let i = c.swaps.invariant in
    let s = c.args.self.now in
    record {
      mux = i.mux;
      played = so_all c.args.plan.ticking s.mux c.swaps.made c.args.plan.count c.args.pass.now c.swaps.pass s.player c.swaps.self.player (g.A.Sink.written s.air) (g.A.Sink.written c.swaps.self.air) tt (search rules) i.so;
      ready = i.so.ready;
      posted = i.posted;
      board = i.board;
      air = i.air;
    }
