use Rattle.epg_play.proofs.KeysKept.{keys_written}
use Rattle.epg_play.proofs.PidsKept.{counters_written}
use Rattle.epg_play.proofs.CheckpointsRead.{checkpoints_read}
use Rattle.epg_play.proofs.laws.checkpoints_are_never_refused.Goals as goal

pub returns : goal.returns
returns c = record { keys = keys_written; counters = counters_written; read = checkpoints_read }
