use Rattle.desk_checkpoint.proofs.GoFacts.{folds_again}
use Rattle.desk_checkpoint.proofs.folding_laws.checkpoints_fold_again.Goals as goal

pub returns : goal.returns
returns c = record { again = λ mux shift h s alike. folds_again mux shift h s alike }
