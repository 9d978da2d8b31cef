use Rattle.loss_laws.proofs.Exact.{thinned_contents}
use Rattle.loss_laws.proofs.Views.{thinned_on_air}
use Rattle.loss_laws.proofs.thinned_air_laws.whole_cycles_are_heard.Goals as goal

pub returns-clause-contents : goal.returns-clause-contents
returns-clause-contents c = thinned_contents

pub returns-clause-view : goal.returns-clause-view
returns-clause-view c = thinned_on_air
