use Rattle.epg_soak.proofs.Texts.{made_done, made_whole}
use Rattle.epg_soak.proofs.workload_run_laws.made_texts_are_whole.Goals as goal

pub returns : goal.returns
returns c = record { whole = made_whole; status = made_done }
