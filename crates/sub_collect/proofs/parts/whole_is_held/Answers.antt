use Rattle.sub_collect.proofs.PartsHeld.{whole_is_held}
use Rattle.sub_collect.proofs.parts.whole_is_held.Goals as goal

pub returns : goal.returns
returns c = whole_is_held
