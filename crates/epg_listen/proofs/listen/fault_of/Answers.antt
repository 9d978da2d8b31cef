use Rattle.epg_listen.proofs.StopLines.{recording_said}
use Rattle.epg_listen.proofs.listen.fault_of.Goals as goal

pub put_fault_line-requires : goal.put_fault_line-requires
put_fault_line-requires c = recording_said c.args.fault c.requires
