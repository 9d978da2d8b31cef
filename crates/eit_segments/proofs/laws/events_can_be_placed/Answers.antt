use Rattle.eit_segments.proofs.Few.{events_can_be_placed as can_be_placed}
use Rattle.eit_segments.proofs.laws.events_can_be_placed.Goals as goal

pub returns : goal.returns
returns c = can_be_placed
