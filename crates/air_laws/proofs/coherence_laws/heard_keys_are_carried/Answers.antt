use Rattle.air_laws.proofs.Carried.{heard_keys_carried}
use Rattle.air_laws.proofs.coherence_laws.heard_keys_are_carried.Goals as goal

pub returns : goal.returns
returns c = heard_keys_carried
