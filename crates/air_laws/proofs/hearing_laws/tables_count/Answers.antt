use Rattle.air_laws.proofs.Blocks.{table_counts}
use Rattle.air_laws.proofs.hearing_laws.tables_count.Goals as goal

pub returns : goal.returns
returns c = table_counts
