use Rattle.epg_soak.proofs.Callers.{runs_counted}
use Rattle.epg_soak.proofs.workload_laws.made_runs_are_counted.Goals as goal

pub returns : goal.returns
returns c = runs_counted
