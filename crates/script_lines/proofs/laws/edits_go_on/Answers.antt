use Rattle.script_lines.proofs.LinesLeft.{edits_go_on}
use Rattle.script_lines.proofs.laws.edits_go_on.Goals as goal

pub returns : goal.returns
returns c = edits_go_on
