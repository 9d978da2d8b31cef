use Rattle.journal_text.proofs.EntryBack.{entries_read_back}
use Rattle.journal_text.proofs.laws.entries_read_back.Goals as goal

pub returns : goal.returns
returns c = record { entries = entries_read_back }
