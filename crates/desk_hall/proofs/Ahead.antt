-- The edits and the control lines ahead, one after another.
use Rattle.std.proofs.Common.{◌≡◌}
use Rattle.std.specs.Prelude.{option_and_then}
use Rattle.input_lines.specs.Fields.{record_of}
use Rattle.input_lines.specs.Ahead.{Ahead, Row, on_line, and_all}
use Rattle.input_lines.proofs.ValuesAhead.{line_within, values_go_on}
use Rattle.journal_model.specs.declared.edit.Edit.{Edit}
use Rattle.script_lines.specs.Edits.{edits_ahead, first_edit}
use Rattle.script_lines.proofs.LinesLeft.{edits_go_on}
use Rattle.journal_model.specs.declared.control.Control.{Control}
use Rattle.script_lines.specs.Controls.{first_control, control_of}
use Rattle.desk_hall.specs.Reads.{controls_ahead}

pub edits_on : (lines : Ahead) → edits_ahead lines ≡ and_all (first_edit lines) (λ (edit : Edit). edits_ahead)
edits_on = edits_go_on

pub controls_on : (lines : Ahead) → controls_ahead lines ≡ and_all (first_control lines) (λ (control : Control). controls_ahead)
unfolding controls_ahead
controls_on lines =
    values_go_on (λ (any : Unit {0}) (row : Row) (behind : Ahead). on_line row.0 (option_and_then control_of (record_of row.1)) behind) (λ (control : Control). tt)
    (λ any k row behind le. line_within k row.0 (option_and_then control_of (record_of row.1)) behind le) tt lines
