use Rattle.journal_air.proofs.AirScreenShown.{published_is_shown}
use Rattle.journal_air.proofs.air_screen_laws.what_is_published_is_shown.Goals as goal

pub returns : goal.returns
returns c = published_is_shown c.written_networks_read_back.ensures.nit c.written_networks_read_back.ensures.sdt
