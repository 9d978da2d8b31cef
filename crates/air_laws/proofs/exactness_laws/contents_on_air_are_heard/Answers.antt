use Rattle.air_laws.proofs.Contents.{contents_heard}
use Rattle.air_laws.proofs.exactness_laws.contents_on_air_are_heard.Goals as goal

pub returns : goal.returns
returns c = contents_heard
