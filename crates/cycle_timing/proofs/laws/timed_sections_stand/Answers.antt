use Rattle.cycle_timing.proofs.Airs.{timed_sections_are_on_air}
use Rattle.cycle_timing.proofs.laws.timed_sections_stand.Goals as goal

pub returns : goal.returns
returns c = timed_sections_are_on_air
