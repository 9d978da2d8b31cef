use Rattle.std.proofs.Common.{◌∙◌, sym}
use Rattle.mux_model.specs.Sound.{comes_before}
use Rattle.mux_model.proofs.Placing.{place_found, place_none}
use Rattle.mux_config.proofs.whole.other_place.Goals as goal

pub returns-in-Some-clause-place : goal.returns-in-Some-clause-place
returns-in-Some-clause-place c = place_found comes_before c.args.other.now c.args.others.now c.in-Some.at (sym c.first_other_above.ensures ∙ c.in-Some.is)

pub returns-in-None-clause-place : goal.returns-in-None-clause-place
returns-in-None-clause-place c = place_none comes_before c.args.other.now c.args.others.now (sym c.first_other_above.ensures ∙ c.in-None.is)
