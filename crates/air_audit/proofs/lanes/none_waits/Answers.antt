use Rattle.air_audit.proofs.Nexts.{none_waiting}
use Rattle.air_audit.proofs.lanes.none_waits.Goals as goal

pub returns-clause-waits : goal.returns-clause-waits
returns-clause-waits c size bytes h = none_waiting size bytes c.args.placed.now c.args.lane h
