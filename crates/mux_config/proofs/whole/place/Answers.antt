use Rattle.std.proofs.Common.{◌∙◌, sym}
use Rattle.mux_config.proofs.Ordering.{place_found, place_none}
use Rattle.mux_config.proofs.whole.place.Goals as goal

pub returns-in-Some-clause-place : goal.returns-in-Some-clause-place
returns-in-Some-clause-place c = λ s same. place_found s c.args.services.now c.args.id c.in-Some.at same (sym c.first_above.ensures ∙ c.in-Some.is)

pub returns-in-None-clause-place : goal.returns-in-None-clause-place
returns-in-None-clause-place c = λ s same. place_none s c.args.services.now c.args.id same (sym c.first_above.ensures ∙ c.in-None.is)
