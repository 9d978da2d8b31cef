use Rattle.std.proofs.Common.{length, sym, ap, ◌∙◌}
use Rattle.air_model.proofs.Times.{size_sent}
use Rattle.air_model.proofs.laying.tot_of.Goals as goal

pub returns-clause-size : goal.returns-clause-size
returns-clause-size c =
    ap length c.in_ok-write_tot.ensures ∙ size_sent c.args.moment.0 c.args.offsets.now (sym c.is_empty.ensures ∙ c.if-is_empty.false)
