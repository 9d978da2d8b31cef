use Rattle.script_notes.proofs.Longest.{entries_are_longest}
use Rattle.script_notes.proofs.report_laws.whole_entries_are_longest.Goals as goal

pub returns : goal.returns
returns c = entries_are_longest
