use Rattle.air_laws.proofs.Whole.{heard_is_sent, cycle_is_heard, cycle_tells_time, cycle_tells_local_time}
use Rattle.air_laws.proofs.joining_laws.cycles_are_heard.Goals as goal

pub returns : goal.returns
returns c = record { sound = heard_is_sent; whole = cycle_is_heard; time = cycle_tells_time; local_time = cycle_tells_local_time }
