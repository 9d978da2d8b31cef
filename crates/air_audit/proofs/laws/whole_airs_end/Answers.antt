use Rattle.air_audit.proofs.Ends.{longer_airs, whole_airs_end}
use Rattle.air_audit.proofs.laws.whole_airs_end.Goals as goal

pub returns-clause-end : goal.returns-clause-end
returns-clause-end c = whole_airs_end

pub returns-clause-longer : goal.returns-clause-longer
returns-clause-longer c = longer_airs
