use Rattle.epg_follow.proofs.KeepingFacts.{keeping_goes_on}
use Rattle.epg_follow.proofs.laws.keeping_goes_on.Goals as goal

pub returns : goal.returns
returns c = keeping_goes_on
