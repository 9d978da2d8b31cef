use Rattle.carousel_player.proofs.Spaced.{made_airs_are_spaced as airs_are_spaced, made_cycles_are_spaced, made_neighbours_are_spaced}
use Rattle.carousel_player.proofs.laws.made_airs_are_spaced.Goals as goal

pub returns-clause-cycles : goal.returns-clause-cycles
returns-clause-cycles c = made_cycles_are_spaced

pub returns-clause-neighbours : goal.returns-clause-neighbours
returns-clause-neighbours c = made_neighbours_are_spaced

pub returns-clause-airs : goal.returns-clause-airs
returns-clause-airs c = airs_are_spaced
