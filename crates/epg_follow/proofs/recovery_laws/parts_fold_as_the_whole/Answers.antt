use Rattle.epg_follow.proofs.FoldFacts.{checkpoints_are_one, folds_again}
use Rattle.epg_follow.proofs.recovery_laws.parts_fold_as_the_whole.Goals as goal

pub returns : goal.returns
returns c = record { one = checkpoints_are_one; parts = folds_again }
