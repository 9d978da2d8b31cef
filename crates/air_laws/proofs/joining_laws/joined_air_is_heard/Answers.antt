use Rattle.air_laws.proofs.Sections.{Carries-air}
use Rattle.air_laws.proofs.Joined.{joined_is_heard}
use Rattle.air_laws.proofs.joining_laws.joined_air_is_heard.Goals as goal

pub returns : goal.returns
returns c = record { carries = Carries-air; part = joined_is_heard }
