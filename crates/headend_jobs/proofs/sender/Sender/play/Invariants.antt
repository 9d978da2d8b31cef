use Rattle.std.proofs.Common.{◌≡◌}
use Rattle.std.specs.Prelude.{Ok}
use Rattle.headend_jobs.specs.Posting.{HasPosted, KeepsBoard}
use Rattle.headend_jobs.specs.Sends.{Wrote}
use Rattle.headend_jobs.proofs.Swaps.{PlayedSo}
use Rattle.headend_jobs.proofs.sender.Sender.play.Given as goal

abbrev pub invariant-swaps : goal.invariant-swaps
invariant-swaps g l = record {
  mux : l.self.mux ≡ l.fn.self.mux;
  so : PlayedSo l.plan.ticking l.fn.self.mux l.made l.fn.pass l.pass l.fn.self.player l.self.player (g.A.Sink.written l.fn.self.air) (g.A.Sink.written l.self.air);
  posted : HasPosted l.fn.self.mux l.fn.pass l.pass l.fn.self.board l.self.board;
  board : KeepsBoard l.fn.self.board l.self.board;
  air : Wrote g.A.Sink.faults g.A.Sink.same l.fn.self.air l.self.air (Ok tt);
}
