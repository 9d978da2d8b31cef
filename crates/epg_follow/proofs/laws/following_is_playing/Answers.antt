use Rattle.epg_follow.proofs.SameAsPlayFacts.{entries_are_the_journal, follow_is_play}
use Rattle.epg_follow.proofs.laws.following_is_playing.Goals as goal

pub returns : goal.returns
returns c = record { entries = follow_is_play; text = entries_are_the_journal }
