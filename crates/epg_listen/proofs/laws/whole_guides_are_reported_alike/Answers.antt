use Rattle.epg_listen.proofs.Alike.{reported_alike}
use Rattle.epg_listen.proofs.laws.whole_guides_are_reported_alike.Goals as goal

pub returns : goal.returns
returns c = reported_alike
