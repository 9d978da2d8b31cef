use Rattle.desk_checkpoint.proofs.StepsWritten.{steps_readable}
use Rattle.desk_checkpoint.proofs.CheckpointBack.{checkpoints_back}
use Rattle.desk_checkpoint.proofs.laws.checkpoints_read_back.Goals as goal

pub returns-clause-steps : goal.returns-clause-steps
returns-clause-steps c = λ mux journal can. steps_readable mux journal can

pub returns-clause-back : goal.returns-clause-back
returns-clause-back c = λ mux journal keys counters clock can written counted told behind tail.
    checkpoints_back mux journal keys counters clock can written counted told behind tail
