use Rattle.guide_model.proofs.PieceFacts.{pieces-none, pieces-next, pieces-join, pieces-longest, pieces-kept, pieces-few, IsKept-concat}
use Rattle.guide_model.proofs.cutting.pieces_join.Goals as goal

pub returns-clause-none : goal.returns-clause-none
returns-clause-none c = pieces-none

pub returns-clause-next : goal.returns-clause-next
returns-clause-next c = pieces-next

pub returns-clause-join : goal.returns-clause-join
returns-clause-join c = pieces-join

pub returns-clause-longest : goal.returns-clause-longest
returns-clause-longest c = pieces-longest

pub returns-clause-kept : goal.returns-clause-kept
returns-clause-kept c = pieces-kept

pub returns-clause-joined : goal.returns-clause-joined
returns-clause-joined c = IsKept-concat

pub returns-clause-few : goal.returns-clause-few
returns-clause-few c = pieces-few
