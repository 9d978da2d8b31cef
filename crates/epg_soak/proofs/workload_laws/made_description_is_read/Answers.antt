use Rattle.epg_soak.proofs.Closed.{description_read, control_read}
use Rattle.epg_soak.proofs.workload_laws.made_description_is_read.Goals as goal

pub returns : goal.returns
returns c = record { mux = description_read; control = control_read }
