use Rattle.script_lines.specs.Edits.{first_edit, edits_ahead}
use Rattle.si_causes.specs.Reading.{room}
use Rattle.desk_hall.specs.Reads.{edit_step, stream}
use Rattle.desk_hall.proofs.Ahead.{edits_on}
use Rattle.desk_hall.proofs.Reading.{Going}
use Rattle.desk_hall.proofs.hall.Hall.feed.Given as goal

abbrev pub invariant-edits : goal.invariant-edits
invariant-edits g l =
    Going (stream g.F.Source.left g.F.Source.faults g.F.Source.same) first_edit edits_ahead edits_on (edit_step l.feed) l.fn.lines l.lines l.fn.pass l.pass

abbrev pub decreases-edits : goal.decreases-edits
decreases-edits g l = room l.lines
