use Rattle.air_model.proofs.Order.{cycles_are_whole as proved}
use Rattle.air_model.proofs.plan_laws.cycles_are_whole.Goals as goal

pub returns : goal.returns
returns c = proved
