use Rattle.air_laws.proofs.Coherent.{air_is_coherent, front_is_coherent}
use Rattle.air_laws.proofs.coherence_laws.airs_are_coherent.Goals as goal

pub returns : goal.returns
returns c = record { whole = air_is_coherent; front = front_is_coherent }
