use Rattle.headend_jobs.proofs.Posts.{ok_then, posted_publish, posted_then, posted_tick}
use Rattle.headend_jobs.proofs.sender.Sender.finish.Goals as goal

pub returns-in-Ok-clause-posted : goal.returns-in-Ok-clause-posted
returns-in-Ok-clause-posted g c =
    ok_then _ _ c.play.result
    (posted_then c.args.self.now.mux c.args.pass.now c.publish.new.pass c.play.new.pass c.args.self.now.board c.args.self.now.board c.play.new.self.board
    (posted_then c.args.self.now.mux c.args.pass.now c.tick_first.new.pass c.publish.new.pass c.args.self.now.board c.args.self.now.board c.args.self.now.board
    (posted_tick c.args.self.now.mux c.tick_now.result c.args.pass.now c.tick_first.new.pass c.args.self.now.board c.in_ok-tick_first.ensures.made)
    (posted_publish c.args.self.now.mux c.in-Ok.field-0 c.tick_first.new.pass c.publish.new.pass c.args.self.now.board c.in-Ok.ensures.made)))
    c.play.ensures.posted
