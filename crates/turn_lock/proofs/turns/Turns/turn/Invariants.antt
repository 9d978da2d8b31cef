use Rattle.std.proofs.Common.{Some}
use Rattle.turn_lock.proofs.turns.Turns.turn.Given as goal

abbrev pub ghosts-store_count : goal.ghosts-store_count
ghosts-store_count g a = record { state = Some a.state.now }
