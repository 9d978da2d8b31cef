use Rattle.air_audit.proofs.Passing.{airs_passed_over, fronts_passed_over}
use Rattle.air_audit.proofs.laws.null_packets_are_passed_over.Goals as goal

pub returns : goal.returns
returns c = record { whole = airs_passed_over; front = fronts_passed_over }
