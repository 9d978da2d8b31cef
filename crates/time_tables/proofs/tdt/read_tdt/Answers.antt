use Rattle.std.proofs.Common.{arith}
use Rattle.time_tables.proofs.Sections.{no_time}
use Rattle.time_tables.proofs.tdt.read_tdt.Goals as goal

pub returns-in_default-clause-value : goal.returns-in_default-clause-value
returns-in_default-clause-value c = no_time c.args.body.now (λ five. omega (arith, c.in_default.len_below))

pub returns-in_default-2-clause-value : goal.returns-in_default-2-clause-value
returns-in_default-2-clause-value c = no_time c.args.body.now (λ five. omega (arith, c.in_default.len_at_least))
