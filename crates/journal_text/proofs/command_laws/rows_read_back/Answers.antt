use Rattle.journal_text.proofs.RowBack.{rows_read_back}
use Rattle.journal_text.proofs.command_laws.rows_read_back.Goals as goal

pub returns : goal.returns
returns c = record { rows = rows_read_back }
