use Rattle.std.proofs.Common.{◌∙◌}
use Rattle.air_timing.proofs.Alone.{first_alone}
use Rattle.air_timing.proofs.pace.Pace.first.Goals as goal

pub returns-clause-first : goal.returns-clause-first
returns-clause-first c t x a = c.first_packet.ensures.first ∙ first_alone t x c.args.section c.args.self.now.spacing c.args.self.now a
