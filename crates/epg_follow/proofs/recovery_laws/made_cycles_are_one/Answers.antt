use Rattle.epg_follow.proofs.MadeFacts.{made_is_one}
use Rattle.epg_follow.proofs.recovery_laws.made_cycles_are_one.Goals as goal

pub returns : goal.returns
returns c = made_is_one
