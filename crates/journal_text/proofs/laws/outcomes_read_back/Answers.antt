use Rattle.std.proofs.Common.{refl}
use Rattle.journal_text.proofs.EntryRows.{outcome_reads}
use Rattle.journal_text.proofs.laws.outcomes_read_back.Goals as goal

pub returns : goal.returns
returns c = record { fields = λ o. refl; read = outcome_reads }
