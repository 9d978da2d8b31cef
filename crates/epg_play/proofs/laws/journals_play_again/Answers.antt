use Rattle.epg_play.proofs.AgainFacts.{journals-again}
use Rattle.epg_play.proofs.laws.journals_play_again.Goals as goal

pub returns : goal.returns
returns c = journals-again
