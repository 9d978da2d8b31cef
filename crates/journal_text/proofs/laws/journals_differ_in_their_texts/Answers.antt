use Rattle.journal_text.proofs.Journals.{journals_differ, journals_end}
use Rattle.journal_text.proofs.laws.journals_differ_in_their_texts.Goals as goal

pub returns : goal.returns
returns c = record { journals = journals_differ; end = journals_end }
