use Rattle.script_lines.proofs.EditBack.{edits_read_back}
use Rattle.script_lines.proofs.laws.edits_read_back.Goals as goal

pub returns : goal.returns
returns c = edits_read_back
