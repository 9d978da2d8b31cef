use Rattle.packet_finder.proofs.Airs.{air_is}
use Rattle.packet_finder.proofs.laws.air_is_found.Goals as goal

pub returns : goal.returns
returns c = air_is
