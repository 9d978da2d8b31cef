use Rattle.ts_demux.proofs.Written.{part_goes_on, part_is_heard, carried_is_heard}
use Rattle.ts_demux.proofs.laws.carried_is_heard.Goals as goal

pub returns-clause-goes_on : goal.returns-clause-goes_on
returns-clause-goes_on c = part_goes_on

pub returns-clause-part : goal.returns-clause-part
returns-clause-part c = part_is_heard

pub returns-clause-all : goal.returns-clause-all
returns-clause-all c = carried_is_heard
