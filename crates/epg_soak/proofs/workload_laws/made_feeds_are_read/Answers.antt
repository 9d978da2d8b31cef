use Rattle.epg_soak.proofs.MadeEdits.{feeds_read}
use Rattle.epg_soak.proofs.workload_laws.made_feeds_are_read.Goals as goal

pub returns : goal.returns
returns c = feeds_read
