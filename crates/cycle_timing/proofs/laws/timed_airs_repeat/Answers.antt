use Rattle.cycle_timing.proofs.Repeats.{timed_cycles_repeat, timed_neighbours_repeat}
use Rattle.cycle_timing.proofs.FirstTables.{first_tables_lead}
use Rattle.cycle_timing.proofs.laws.timed_airs_repeat.Goals as goal

pub returns-clause-cycle : goal.returns-clause-cycle
returns-clause-cycle c = timed_cycles_repeat

pub returns-clause-neighbours : goal.returns-clause-neighbours
returns-clause-neighbours c = timed_neighbours_repeat

pub returns-clause-first : goal.returns-clause-first
returns-clause-first c = first_tables_lead
