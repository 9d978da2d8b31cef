use Rattle.cycle_player.proofs.Making.{made_again}
use Rattle.cycle_player.proofs.laws.airs_are_made_again.Goals as goal

pub returns : goal.returns
returns c = made_again
