use Rattle.ts_packets.proofs.Stamps.{StandFor-none}
use Rattle.ts_packets.proofs.KeptCounters.{AreNext-none}
use Rattle.ts_packets.proofs.counters.Counters.open.Goals as goal

pub returns : goal.returns
returns c = StandFor-none

pub invariant_of-result : goal.invariant_of-result
invariant_of-result c = AreNext-none
