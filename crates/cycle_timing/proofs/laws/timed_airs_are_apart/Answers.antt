use Rattle.cycle_timing.proofs.Apart.{timed_airs_are_apart as proved}
use Rattle.cycle_timing.proofs.laws.timed_airs_are_apart.Goals as goal

pub returns : goal.returns
returns c = proved
