use Rattle.journal_air.proofs.CarryFacts.{airings_heard, airings_counted}
use Rattle.journal_air.proofs.laws.airings_can_be_heard.Goals as goal

pub returns : goal.returns
returns c = record { heard = airings_heard; counted = airings_counted }
