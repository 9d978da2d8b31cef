use Rattle.cycle_timing.proofs.Airs.{timed_airs_are_airs as proved}
use Rattle.cycle_timing.proofs.Sent.{timed_cycles_are_cycles}
use Rattle.cycle_timing.proofs.laws.timed_airs_are_airs.Goals as goal

pub returns-clause-cycle : goal.returns-clause-cycle
returns-clause-cycle c = timed_cycles_are_cycles

pub returns-clause-air : goal.returns-clause-air
returns-clause-air c = proved
