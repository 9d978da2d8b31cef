use Rattle.si_base.proofs.Remainder.{crc_of-own_crc}
use Rattle.si_base.proofs.crc.crc_leaves_nothing.Goals as goal

pub returns : goal.returns
returns c = crc_of-own_crc
