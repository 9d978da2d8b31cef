use Rattle.script_lines.specs.Controls.{first_control}
use Rattle.si_causes.specs.Reading.{room}
use Rattle.desk_hall.specs.Reads.{control_step, controls_ahead, stream}
use Rattle.desk_hall.proofs.Ahead.{controls_on}
use Rattle.desk_hall.proofs.Reading.{Going}
use Rattle.desk_hall.proofs.hall.Hall.control.Given as goal

abbrev pub invariant-controls : goal.invariant-controls
invariant-controls g l =
    Going (stream g.S.Source.left g.S.Source.faults g.S.Source.same) first_control controls_ahead controls_on control_step l.fn.lines l.lines l.fn.pass l.pass

abbrev pub decreases-controls : goal.decreases-controls
decreases-controls g l = room l.lines
