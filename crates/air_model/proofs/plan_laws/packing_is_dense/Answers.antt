use Rattle.air_model.proofs.Packings.{packing_is_dense as proved}
use Rattle.air_model.proofs.plan_laws.packing_is_dense.Goals as goal

pub returns : goal.returns
returns c = proved
