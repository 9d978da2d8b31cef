use Rattle.journal_air.proofs.KeyFacts.{airings_few}
use Rattle.journal_air.proofs.laws.airings_have_few_keys.Goals as goal

pub returns : goal.returns
returns c = airings_few
