use Rattle.std.proofs.Common.{sym, ap, ◌∙◌}
use Rattle.std.specs.Prelude.{is_some}
use Rattle.carousel_player.proofs.Steps.{ended_is}
use Rattle.carousel_player.proofs.packing.PackedSections.is_ended.Goals as goal

pub returns : goal.returns
returns g c = ended_is (g.Q.SectionQueue.sections c.args.self.now.queue) c.args.self.now.from c.is_none.result c.requires c.pid.ensures.fit (ap is_some (sym c.pid.ensures.first) ∙ c.is_none.ensures)
