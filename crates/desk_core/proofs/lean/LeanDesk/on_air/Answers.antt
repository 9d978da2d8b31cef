use Rattle.std.proofs.Common.{arith}
use Rattle.std.proofs.lemmas.Grind.{common_steps}
use Rattle.desk_core.proofs.MomentFacts.{held_on_air}
use Rattle.desk_core.proofs.lean.LeanDesk.on_air.Goals as goal

pub returns-clause-moment : goal.returns-clause-moment
returns-clause-moment c = λ (journal, stands).
    let held = held_on_air c.args.self.now.mux journal c.args.self.now.held stands in
    grind (arith, common_steps, held, c.self.view_is)
