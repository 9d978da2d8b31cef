use Rattle.headend_jobs.proofs.Viewing.{said_longer}
use Rattle.headend_jobs.proofs.views.ViewJob.finish.Goals as goal

pub ask-requires-clause-said : goal.ask-requires-clause-said
ask-requires-clause-said c = said_longer c.args.self.now.service 0 c.args.self.now.viewer.posts c.learn.new.self.posts c.args.self.now.answers.items c.learn.ensures.own c.requires.said
