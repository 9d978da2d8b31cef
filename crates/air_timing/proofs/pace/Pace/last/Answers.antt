use Rattle.std.proofs.Common.{◌∙◌}
use Rattle.air_timing.proofs.Alone.{last_alone}
use Rattle.air_timing.proofs.pace.Pace.last.Goals as goal

pub returns : goal.returns
returns c t x a = c.last_packet.ensures.last ∙ last_alone t x c.args.section c.args.self.now.spacing c.args.self.now a
