use Rattle.cycle_player.proofs.Tallies.{tallies_tell_whether_kept, least_rates_do}
use Rattle.cycle_player.proofs.laws.tallies_tell.Goals as goal

pub returns-clause-kept : goal.returns-clause-kept
returns-clause-kept c = tallies_tell_whether_kept

pub returns-clause-least : goal.returns-clause-least
returns-clause-least c = least_rates_do
