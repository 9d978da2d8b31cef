use Rattle.sub_collect.proofs.OneContent.{completes-no-other, completes}
use Rattle.sub_collect.proofs.laws.runs_complete_their_content.Goals as goal

pub returns : goal.returns
returns c = record { other = completes-no-other; whole = completes }
