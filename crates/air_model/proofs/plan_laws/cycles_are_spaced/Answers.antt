use Rattle.air_model.proofs.Spaced.{cycles_are_spaced as proved, near_is_spaced}
use Rattle.air_model.proofs.plan_laws.cycles_are_spaced.Goals as goal

pub returns-clause-cycles : goal.returns-clause-cycles
returns-clause-cycles c = proved

pub returns-clause-near : goal.returns-clause-near
returns-clause-near c = near_is_spaced
