use Rattle.std.proofs.Common.{sym}
use Rattle.air_model.proofs.Cursors.{lead-step}
use Rattle.air_model.proofs.cycle.CyclePlan.next.Goals as goal

pub returns-then-self-clause-some : goal.returns-then-self-clause-some
returns-then-self-clause-some c = lead-step _ _ _ _ (sym c.self.view_is) c.if-self.true
