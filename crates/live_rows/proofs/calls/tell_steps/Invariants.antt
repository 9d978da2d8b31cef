use Rattle.desk_hall.specs.Turn.{KeepsNumbers}
use Rattle.live_rows.proofs.calls.tell_steps.Given as goal

abbrev pub invariant-steps : goal.invariant-steps
invariant-steps g l = KeepsNumbers l.fn.pass l.pass
