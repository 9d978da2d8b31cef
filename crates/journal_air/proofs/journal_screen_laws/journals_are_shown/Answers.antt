use Rattle.journal_air.proofs.JournalScreenShown.{journals_shown, sent_shown}
use Rattle.journal_air.proofs.journal_screen_laws.journals_are_shown.Goals as goal

pub returns : goal.returns
returns c = record { whole = journals_shown; sent = sent_shown }
