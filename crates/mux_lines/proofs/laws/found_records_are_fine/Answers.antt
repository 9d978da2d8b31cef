use Rattle.mux_lines.proofs.FineFields.{fine_line}
use Rattle.mux_lines.proofs.laws.found_records_are_fine.Goals as goal

pub returns : goal.returns
returns c = fine_line
