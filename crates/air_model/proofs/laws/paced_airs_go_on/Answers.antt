use Rattle.air_model.proofs.Bursts.{bursts_are_cycles, bursts_go_on}
use Rattle.air_model.proofs.laws.paced_airs_go_on.Goals as goal

pub returns : goal.returns
returns c = record { cycle = bursts_are_cycles; air = bursts_go_on }
