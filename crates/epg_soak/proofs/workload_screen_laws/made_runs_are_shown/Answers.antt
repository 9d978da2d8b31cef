use Rattle.epg_soak.proofs.WorkloadScreenEvents.{runs_shown}
use Rattle.epg_soak.proofs.workload_screen_laws.made_runs_are_shown.Goals as goal

pub returns : goal.returns
returns c = runs_shown
