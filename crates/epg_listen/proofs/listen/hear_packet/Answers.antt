use Rattle.std.proofs.Common.{arith}
use Rattle.std.proofs.lemmas.Grind.{common_steps}
use Rattle.epg_listen.proofs.listen.hear_packet.Goals as goal

pub returns-in-Ok-write_all : goal.returns-in-Ok-write_all
returns-in-Ok-write_all g c = record { reports = grind (arith, common_steps); stands = λ h stands. c.in-Ok.ensures.stands h stands; too_many = λ h stands. tt; cause = grind (arith, common_steps); no_read = grind (arith, common_steps); later = grind (arith, common_steps) }

pub returns-in-Err-Memory : goal.returns-in-Err-Memory
returns-in-Err-Memory g c = record { reports = grind (arith, common_steps); stands = grind (arith, common_steps); too_many = λ h stands. tt; cause = grind (arith, common_steps); no_read = grind (arith, common_steps); later = grind (arith, common_steps) }

pub returns : goal.returns
returns g c = record { reports = grind (arith, common_steps); stands = grind (arith, common_steps); too_many = λ h stands. tt; cause = grind (arith, common_steps); no_read = grind (arith, common_steps); later = grind (arith, common_steps) }
