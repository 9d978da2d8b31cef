use Rattle.std.proofs.Common.{◌∙◌, sym}
use Rattle.mux_model.specs.Sound.{has_lower_id}
use Rattle.mux_model.proofs.Placing.{place_found, place_none}
use Rattle.mux_config.proofs.whole.remote_place.Goals as goal

pub returns-in-Some-clause-place : goal.returns-in-Some-clause-place
returns-in-Some-clause-place c = place_found has_lower_id c.args.service.now c.args.services.now c.in-Some.at (sym c.first_remote_above.ensures ∙ c.in-Some.is)

pub returns-in-None-clause-place : goal.returns-in-None-clause-place
returns-in-None-clause-place c = place_none has_lower_id c.args.service.now c.args.services.now (sym c.first_remote_above.ensures ∙ c.in-None.is)
