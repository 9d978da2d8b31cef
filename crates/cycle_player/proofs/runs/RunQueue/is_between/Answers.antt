use Rattle.std.proofs.Common.{sym, ap, ◌∙◌, subst}
use Rattle.cycle_player.specs.Running.{Course, IsCourse}
use Rattle.cycle_player.proofs.Courses.{some_at_hand}
use Rattle.cycle_player.proofs.Queues.{some_of}
use Rattle.cycle_player.proofs.runs.RunQueue.is_between.Goals as goal

pub returns-clause-within : goal.returns-clause-within
returns-clause-within c e from begun =
    let some = some_of c.self.inside.at c.is_none.result c.is_none.ensures e in
    some_at_hand c.args.self.now some.0 from (subst IsCourse c.self.view_is c.self.invariant.course) (ap (λ (x : Course). x.at) (sym c.self.view_is) ∙ some.1) begun
