use Rattle.air_audit.proofs.TimedAirs.{longer_begins, longer_airs, whole_airs_end}
use Rattle.air_audit.proofs.Stands.{longer_lists_agree}
use Rattle.air_audit.proofs.timed_laws.timed_lists_agree.Goals as goal

pub returns-clause-begins : goal.returns-clause-begins
returns-clause-begins c = longer_begins

pub returns-clause-agree : goal.returns-clause-agree
returns-clause-agree c = longer_lists_agree

pub returns-clause-end : goal.returns-clause-end
returns-clause-end c = whole_airs_end

pub returns-clause-longer : goal.returns-clause-longer
returns-clause-longer c = longer_airs
