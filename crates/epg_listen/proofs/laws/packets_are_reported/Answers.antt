use Rattle.epg_listen.proofs.LineFacts.{packets_told}
use Rattle.epg_listen.proofs.laws.packets_are_reported.Goals as goal

pub returns : goal.returns
returns c = packets_told
