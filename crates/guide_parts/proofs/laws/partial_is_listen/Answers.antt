use Rattle.guide_parts.proofs.WholeScreen.{partial_is_listen}
use Rattle.guide_parts.proofs.laws.partial_is_listen.Goals as goal

pub returns : goal.returns
returns c = partial_is_listen
