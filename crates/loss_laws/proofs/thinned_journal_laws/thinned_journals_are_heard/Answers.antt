use Rattle.loss_laws.proofs.ThinnedJournalHeard.{thinned_heard}
use Rattle.loss_laws.proofs.thinned_journal_laws.thinned_journals_are_heard.Goals as goal

pub returns : goal.returns
returns c = thinned_heard
