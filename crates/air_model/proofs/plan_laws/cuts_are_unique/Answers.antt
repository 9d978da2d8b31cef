use Rattle.air_model.proofs.Cuts.{cuts_are_unique as proved}
use Rattle.air_model.proofs.plan_laws.cuts_are_unique.Goals as goal

pub returns : goal.returns
returns c = proved
