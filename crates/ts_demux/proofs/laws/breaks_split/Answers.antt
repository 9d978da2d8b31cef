use Rattle.ts_demux.proofs.Splitting.{split, by_all_parts, flag_tells}
use Rattle.ts_demux.proofs.laws.breaks_split.Goals as goal

pub returns-clause-split : goal.returns-clause-split
returns-clause-split c = split

pub returns-clause-parts : goal.returns-clause-parts
returns-clause-parts c = by_all_parts

pub returns-clause-flag : goal.returns-clause-flag
returns-clause-flag c = flag_tells
