-- The ticks of control lines are at moments that can be written.
use Rattle.std.proofs.Common.{ℕ, List}
use Rattle.std.specs.Prelude.{option_and_then}
use Rattle.std.specs.List.{AllByRecursion}
use Rattle.si_lists.proofs.Outcomes.{any_some, then_some}
use Rattle.input_lines.specs.Fields.{record_of}
use Rattle.input_lines.specs.Ahead.{Ahead, Row, IfCame, on_line}
use Rattle.input_lines.proofs.ValuesAhead.{line_came, values_came}
use Rattle.journal_model.specs.declared.control.Control.{Control}
use Rattle.journal_model.specs.Steps.{IsControlWithin}
use Rattle.script_lines.specs.Controls.{control_of}
use Rattle.script_lines.proofs.ControlFacts.{control_window}
use Rattle.desk_hall.specs.Reads.{controls_ahead}

line_within : (any : Unit {0}) (row : Row) (behind : Ahead) → IfCame IsControlWithin (on_line row.0 (option_and_then control_of (record_of row.1)) behind)
line_within any row behind =
    line_came IsControlWithin row.0 (option_and_then control_of (record_of row.1)) behind
    (then_some (λ (fields : List (List ℕ)). Unit {0}) IsControlWithin control_of (record_of row.1) (any_some (record_of row.1)) (λ fields any. control_window fields))

pub controls_within : (lines : Ahead) → AllByRecursion IsControlWithin (controls_ahead lines).0
unfolding controls_ahead
controls_within lines =
    values_came (λ (any : Unit {0}) (row : Row) (behind : Ahead). on_line row.0 (option_and_then control_of (record_of row.1)) behind) (λ (control : Control). tt) IsControlWithin
    line_within tt lines
