use Rattle.packet_finder.proofs.Going.{finding_goes}
use Rattle.packet_finder.proofs.laws.finding_goes_on.Goals as goal

pub returns : goal.returns
returns c = finding_goes
