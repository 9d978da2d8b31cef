use Rattle.ts_packets.proofs.Joined.{alone_carried, payload_is, useful_joined}
use Rattle.ts_packets.proofs.Dense.{stretch_carried}
use Rattle.ts_packets.proofs.laws.packets_carry_sections.Goals as goal

pub returns-clause-alone : goal.returns-clause-alone
returns-clause-alone c = alone_carried

pub returns-clause-payload : goal.returns-clause-payload
returns-clause-payload c = payload_is

pub returns-clause-joined : goal.returns-clause-joined
returns-clause-joined c = useful_joined

pub returns-clause-stretch : goal.returns-clause-stretch
returns-clause-stretch c = stretch_carried
