use Rattle.desk_hall.proofs.Turns.{grows}
use Rattle.desk_hall.proofs.state.SteppingJobHallState.run.Goals as goal

pub returns-clause-appends : goal.returns-clause-appends
returns-clause-appends c = grows c.args.who c.args.self.step c.args.state.now.0 c.step-answer.new.self c.step-answer.result c.step-answer.ensures.entry c.step-answer.ensures.memory
