use Rattle.std.proofs.Common.{ap, ◌∙◌, arith}
use Rattle.ts_packets.specs.Packets.{packets_of}
use Rattle.ts_packets.proofs.Carrying.{length-alone}
use Rattle.ts_packets.proofs.written.packets_of.Goals as goal

pub returns-clause-alone : goal.returns-clause-alone
returns-clause-alone c section len = length-alone section (omega arith) ∙ ap packets_of len
