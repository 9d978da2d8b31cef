use Rattle.epg_follow.proofs.RecoveryFacts.{resumed_runs_go_on, standing_runs_go_on}
use Rattle.epg_follow.proofs.recovery_laws.runs_go_on.Goals as goal

pub returns : goal.returns
returns c = record { resumed = resumed_runs_go_on; standing = standing_runs_go_on }
