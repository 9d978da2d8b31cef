use Rattle.std.proofs.Common.{subst}
use Rattle.cycle_player.specs.Running.{IsCourse}
use Rattle.cycle_player.proofs.Courses.{run_fit}
use Rattle.cycle_player.proofs.runs.RunQueueSectionQueue.pid.Goals as goal

pub returns-clause-fit : goal.returns-clause-fit
returns-clause-fit c = run_fit c.args.self.now (subst IsCourse c.self.view_is c.self.invariant.course)
