use Rattle.epg_play.proofs.OutcomeFacts.{outcomes_are_compared}
use Rattle.epg_play.proofs.laws.outcomes_are_compared.Goals as goal

pub returns : goal.returns
returns c = outcomes_are_compared
