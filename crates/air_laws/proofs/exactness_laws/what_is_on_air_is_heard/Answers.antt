use Rattle.air_laws.proofs.Views.{on_air_heard}
use Rattle.air_laws.proofs.exactness_laws.what_is_on_air_is_heard.Goals as goal

pub returns : goal.returns
returns c = on_air_heard
