use Rattle.journal_air.proofs.Last.{journals_last}
use Rattle.journal_air.proofs.journal_screen_laws.journals_end_shown.Goals as goal

pub returns : goal.returns
returns c = journals_last
