use Rattle.air_timing.proofs.EachTurn.{each_has_turn as proved}
use Rattle.air_timing.proofs.laws.each_has_turn.Goals as goal

pub returns : goal.returns
returns c = proved
