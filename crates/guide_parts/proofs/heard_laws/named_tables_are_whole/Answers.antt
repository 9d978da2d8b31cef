use Rattle.guide_parts.proofs.Names.{named_completed}
use Rattle.guide_parts.proofs.heard_laws.named_tables_are_whole.Goals as goal

pub returns : goal.returns
returns c = named_completed
