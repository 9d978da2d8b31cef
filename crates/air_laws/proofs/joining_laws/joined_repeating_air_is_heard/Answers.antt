use Rattle.air_laws.proofs.Joined.{repeating_carries, repeating_is_heard}
use Rattle.air_laws.proofs.joining_laws.joined_repeating_air_is_heard.Goals as goal

pub returns : goal.returns
returns c = record { carries = repeating_carries; part = repeating_is_heard }
