use Rattle.epg_soak.proofs.WorkloadRunJournals.{done_counted, runs_whole}
use Rattle.epg_soak.proofs.workload_run_laws.done_runs_are_counted.Goals as goal

pub returns : goal.returns
returns c = record { run = runs_whole; counted = done_counted }
