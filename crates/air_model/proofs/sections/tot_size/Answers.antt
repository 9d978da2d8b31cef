use Rattle.std.proofs.Common.{sym, ◌∙◌}
use Rattle.air_model.proofs.Times.{size_is}
use Rattle.air_model.proofs.sections.tot_size.Goals as goal

pub returns-clause-size : goal.returns-clause-size
returns-clause-size c = size_is c.args.offsets.now c.requires (sym c.is_empty.ensures ∙ c.if-is_empty.false)
