use Rattle.epg_follow.proofs.RecoveryFacts.{fold_runs_make_what_was_aired, folds_make_what_was_aired, resumed_folds_make_what_was_aired, whole_entries_fold}
use Rattle.epg_follow.proofs.recovery_laws.folds_make_what_was_aired.Goals as goal

pub returns : goal.returns
returns c = record { runs = fold_runs_make_what_was_aired; resumed = resumed_folds_make_what_was_aired; behind = folds_make_what_was_aired; done = whole_entries_fold }
