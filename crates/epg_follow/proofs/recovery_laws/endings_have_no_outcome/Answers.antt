use Rattle.epg_follow.proofs.EndingFacts.{endings_have_no_outcome}
use Rattle.epg_follow.proofs.recovery_laws.endings_have_no_outcome.Goals as goal

pub returns : goal.returns
returns c = endings_have_no_outcome
