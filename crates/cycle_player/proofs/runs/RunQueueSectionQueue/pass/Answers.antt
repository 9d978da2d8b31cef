use Rattle.std.proofs.Common.{subst}
use Rattle.cycle_player.specs.Running.{IsCourse}
use Rattle.cycle_player.proofs.Courses.{passed}
use Rattle.cycle_player.proofs.runs.RunQueueSectionQueue.pass.Goals as goal

pub returns-in-Some-clause-rest : goal.returns-in-Some-clause-rest
returns-in-Some-clause-rest c =
    (passed c.in-Some.timing c.args.self.now c.begin_section.new.self (subst IsCourse c.self.view_is c.self.invariant.course) c.requires c.begin_section.ensures c.in-Some.ensures.first c.in-Some.ensures.shares).run

pub returns-in-Some-clause-keeps : goal.returns-in-Some-clause-keeps
returns-in-Some-clause-keeps c =
    (passed c.in-Some.timing c.args.self.now c.begin_section.new.self (subst IsCourse c.self.view_is c.self.invariant.course) c.requires c.begin_section.ensures c.in-Some.ensures.first c.in-Some.ensures.shares).bursts
