use Rattle.desk_core.proofs.MomentFacts.{held_moment}
use Rattle.desk_core.proofs.lean.LeanDesk.latest.Goals as goal

pub returns-clause-moment : goal.returns-clause-moment
returns-clause-moment c = λ (journal, stands). held_moment c.args.self.now.mux journal c.args.self.now.held stands
