use Rattle.loss_laws.proofs.Coherent.{thinned_coherent}
use Rattle.loss_laws.proofs.Dones.{thinned_dones}
use Rattle.loss_laws.proofs.thinned_air_laws.thinned_airs_are_coherent.Goals as goal

pub returns-clause-completed : goal.returns-clause-completed
returns-clause-completed c = thinned_coherent

pub returns-clause-shown : goal.returns-clause-shown
returns-clause-shown c = thinned_dones
