use Rattle.cycle_timing.proofs.Times.{timed_airs_tell_the_time as proved}
use Rattle.cycle_timing.proofs.laws.timed_airs_tell_the_time.Goals as goal

pub returns : goal.returns
returns c = proved
