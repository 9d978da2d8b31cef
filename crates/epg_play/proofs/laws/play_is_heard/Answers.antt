use Rattle.epg_play.proofs.HearingFacts.{play-heard}
use Rattle.epg_play.proofs.laws.play_is_heard.Goals as goal

pub returns : goal.returns
returns c = play-heard
