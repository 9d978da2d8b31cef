use Rattle.desk_hall.proofs.Turns.{aired}
use Rattle.desk_hall.proofs.hall.Hall.swap.Goals as goal

pub returns-clause-airing : goal.returns-clause-airing
returns-clause-airing g c = aired c.turn.result c.args.pass.now c.turn.new.pass c.turn.ensures
