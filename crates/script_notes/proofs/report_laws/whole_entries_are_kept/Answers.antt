use Rattle.script_notes.proofs.PieceFacts.{entries_are_kept}
use Rattle.script_notes.proofs.report_laws.whole_entries_are_kept.Goals as goal

pub returns : goal.returns
returns c = entries_are_kept
