use Rattle.eit_segments.proofs.Numbers.{tables_are_whole as are_whole}
use Rattle.eit_segments.proofs.laws.tables_are_whole.Goals as goal

pub returns : goal.returns
returns c = are_whole
