use Rattle.loss_laws.proofs.Alike.{part_alike}
use Rattle.loss_laws.proofs.thinned_air_laws.whole_parts_are_heard_alike.Goals as goal

pub returns : goal.returns
returns c = part_alike
