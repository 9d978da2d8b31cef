use Rattle.cycle_player.proofs.TimedAirs.{timed_players_send_airs as at_end, cycles_begun_are_airs}
use Rattle.cycle_player.proofs.timed_laws.timed_players_send_airs.Goals as goal

pub returns-clause-ended : goal.returns-clause-ended
returns-clause-ended c = at_end

pub returns-clause-begun : goal.returns-clause-begun
returns-clause-begun c = cycles_begun_are_airs
