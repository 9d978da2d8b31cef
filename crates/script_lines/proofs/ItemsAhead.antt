-- The items ahead, one by one: that with each fewer lines are left, and how they go on.
use Rattle.std.proofs.Common.{◌≡◌, ◌≤◌, ℕ, Bool, true, false, List, [], ◌∷◌, length, drop, ap, ◌∙◌}
use Rattle.std.specs.Prelude.{Option, Some, None, if◌then◌else◌}
use Rattle.input_lines.specs.Fields.{record_of}
use Rattle.input_lines.specs.Ahead.{Ahead, Row, Found, Came, Stopped, Stop, on_line, and_all}
use Rattle.input_lines.proofs.ValuesAhead.{Within, then_within, line_within, values_go_on}
use Rattle.script_lines.specs.Edits.{read_edit}
use Rattle.script_lines.proofs.LinesLeft.{read_within}
use Rattle.journal_model.specs.declared.step.Step.{Step}
use Rattle.journal_model.specs.declared.step.Step.TheVariants.{Edit as edit}
use Rattle.journal_model.specs.declared.step.Outcome.{Outcome}
use Rattle.journal_model.specs.Steps.{Command}
use Rattle.script_lines.specs.declared.script.ScriptItem.{ScriptItem}
use Rattle.script_lines.specs.declared.script.ScriptItem.TheVariants.{Step as step, Kept}
use Rattle.script_lines.specs.Script.{feed_of, feed_command, short_step, command_with, caller_of, command_by, read_command, is_outcome_line, kept_in, kept_item, step_item, read_item, item_on, first_script_item, is_command, items_ahead}
use Rattle.script_lines.specs.Laws.{ItemsGoOn}

command_within : (k who n : ℕ) (short : Option Step) (fields : List (List ℕ)) (behind : Ahead) → length behind.rows ≤ k → Within k (command_with who n short fields behind)
command_within k who n (Some s) fields behind h = h
command_within k who n None fields behind h =
    then_within k k (on_line n (feed_of fields) behind) (λ feed more. feed_command who feed (read_edit n (drop 2 fields) more)) (line_within k n (feed_of fields) behind h)
    (λ feed more le. then_within k k (read_edit n (drop 2 fields) more) (λ e rest. let r : Found Command = Came (who, edit feed e) rest in r) (read_within k n (drop 2 fields) more le) (λ e rest few. few))

pub caller_within : (k n : ℕ) (who : Option ℕ) (fields : List (List ℕ)) (behind : Ahead) → length behind.rows ≤ k → Within k (command_by who n fields behind)
caller_within k n (Some who) fields behind h = command_within k who n (short_step (drop 1 fields)) (drop 1 fields) behind h
caller_within k n None fields behind h = command_within k 0 n (short_step fields) fields behind h

item_within : (k : ℕ) (after : Bool) (n : ℕ) (fields : List (List ℕ)) (behind : Ahead) → length behind.rows ≤ k → Within k (read_item after n fields behind)
item_within k after n fields behind h = go (is_outcome_line fields)
  where
    go : (outcome : Bool) → Within k (if outcome then kept_item n (on_line n (kept_in after fields) behind) else step_item (read_command n fields behind))
    go true = then_within k k (on_line n (kept_in after fields) behind) (λ o rest. let r : Found ScriptItem = Came (Kept n o) rest in r) (line_within k n (kept_in after fields) behind h) (λ o rest few. few)
    go false = then_within k k (read_command n fields behind) (λ c rest. let r : Found ScriptItem = Came (step c.0 c.1) rest in r) (caller_within k n (caller_of fields) fields behind h) (λ c rest few. few)

row_within : (after : Bool) (k : ℕ) (row : Row) (behind : Ahead) → length behind.rows ≤ k → Within k (item_on after row.0 (record_of row.1) behind)
row_within after k row behind h =
    then_within k k (on_line row.0 (record_of row.1) behind) (read_item after row.0) (line_within k row.0 (record_of row.1) behind h) (λ fields rest le. item_within k after row.0 fields rest le)

pub items_go_on : ItemsGoOn
unfolding items_ahead
items_go_on after lines = values_go_on (λ (after : Bool) (row : Row) (behind : Ahead). item_on after row.0 (record_of row.1) behind) is_command row_within after lines

-- ---- by what comes first

first_is : (after : Bool) (lines : Ahead) (r : Found ScriptItem) → first_script_item after lines ≡ r → items_ahead after lines ≡ and_all r (λ (item : ScriptItem). items_ahead (is_command item))
first_is after lines r e = items_go_on after lines ∙ ap (λ (f : Found ScriptItem). and_all f (λ (item : ScriptItem). items_ahead (is_command item))) e

pub items_step : (after : Bool) (lines behind : Ahead) (who : ℕ) (s : Step) → first_script_item after lines ≡ Came (step who s) behind
    → items_ahead after lines ≡ (step who s ∷ (items_ahead true behind).0, (items_ahead true behind).1)
items_step after lines behind who s e = first_is after lines (Came (step who s) behind) e

pub items_kept : (after : Bool) (lines behind : Ahead) (n : ℕ) (outcome : Outcome) → first_script_item after lines ≡ Came (Kept n outcome) behind
    → items_ahead after lines ≡ (Kept n outcome ∷ (items_ahead false behind).0, (items_ahead false behind).1)
items_kept after lines behind n outcome e = first_is after lines (Came (Kept n outcome) behind) e

pub items_stop : (after : Bool) (lines : Ahead) (stop : Stop) → first_script_item after lines ≡ Stopped stop → items_ahead after lines ≡ ([], stop)
items_stop after lines stop e = first_is after lines (Stopped stop) e
