use Rattle.epg_soak.proofs.WorkloadJournals.{made_done}
use Rattle.epg_soak.proofs.Counts.{made_counted}
use Rattle.epg_soak.proofs.workload_laws.made_edits_are_done.Goals as goal

pub returns : goal.returns
returns c = record { done = made_done; counted = made_counted }
