use Rattle.std.proofs.Common.{arith}
use Rattle.std.proofs.lemmas.Grind.{common_steps}
use Rattle.journal_air.proofs.SwapFacts.{on_ok}
use Rattle.desk_checkpoint.proofs.text.write_lean_checkpoint.Goals as goal

pub returns-clause-handed : goal.returns-clause-handed
returns-clause-handed c = on_ok c.extend_from_slice.result c.in_ok-text.ensures.handed

pub returns-clause-kept : goal.returns-clause-kept
returns-clause-kept c = grind (arith, common_steps)
