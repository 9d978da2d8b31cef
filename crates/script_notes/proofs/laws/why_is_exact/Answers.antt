use Rattle.script_notes.proofs.Exact.{why_is_exact, why_of_lines_is_exact}
use Rattle.script_notes.proofs.HeadFacts.{line_is}
use Rattle.script_notes.proofs.laws.why_is_exact.Goals as goal

pub returns : goal.returns
returns c = record { fields = why_is_exact; lines = why_of_lines_is_exact; heads = line_is }
