-- What a line gives in place of a command, without the items of a day.
use Rattle.std.specs.Prelude.{◌≡◌, ◌≤◌, ℕ, true, Bool, List, Option, Some, None, drop, option_map, option_and_then, if◌then◌else◌, codes}
use Rattle.si_time.specs.Readings.{has_shape}
use Rattle.input_lines.specs.Fields.{record_of}
use Rattle.input_lines.specs.Ahead.{Ahead, Found, Came, and_then}
use Rattle.journal_model.specs.declared.edit.Edit.TheVariants.{Day}
use Rattle.journal_model.specs.declared.edit.Item.{Item}
use Rattle.journal_model.specs.declared.edit.DayText.{DayText}
use Rattle.journal_model.specs.declared.step.Step.{Step}
use Rattle.journal_model.specs.declared.step.Step.TheVariants.{Edit as edit}
use Rattle.journal_model.specs.declared.step.Outcome.{Outcome}
use Rattle.script_lines.specs.declared.heads.Head.{Head}
use Rattle.script_lines.specs.declared.heads.Head.TheVariants.{Whole, OfDay}
use Rattle.script_lines.specs.declared.script.ScriptItem.{ScriptItem}
use Rattle.script_lines.specs.declared.script.ScriptItem.TheVariants.{Step as step, Kept}
use Rattle.script_lines.specs.Edits.{items_of}
use Rattle.script_lines.specs.Heads.{edit_head}
use Rattle.script_lines.specs.Script.{IsItemWithin, IsRead, IsShapedScriptItem, caller_of, feed_of, is_outcome_line, kept_in, short_step}
use Rattle.script_notes.specs.declared.head.DayHead.{DayHead}
use Rattle.script_notes.specs.declared.head.LineHead.{LineHead}
use Rattle.script_notes.specs.declared.head.LineHead.TheVariants as head

abbrev pub kept_head : ℕ → Outcome → LineHead
kept_head n outcome = head.Whole (Kept n outcome)

abbrev pub day_head : ℕ → ℕ → ℕ → DayText → ℕ → DayHead
day_head who feed service date count = record { who = who; feed = feed; service = service; date = date; count = count }

-- the edit of a feed
abbrev pub feed_head : ℕ → ℕ → Head → LineHead
feed_head who feed (Whole e) = head.Whole (step who (edit feed e))
feed_head who feed (OfDay service date count) = head.OfDay (day_head who feed service date count)

abbrev pub step_head : ℕ → Option Step → List (List ℕ) → Option LineHead
step_head who (Some s) fields = Some (head.Whole (step who s))
step_head who None fields = option_and_then (λ feed. option_map (feed_head who feed) (edit_head (drop 2 fields))) (feed_of fields)

-- a step that is no edit, or else `feed,N,` and the fields of an edit
abbrev pub command_head : ℕ → List (List ℕ) → Option LineHead
command_head who fields = step_head who (short_step fields) fields

abbrev pub caller_head : Option ℕ → List (List ℕ) → Option LineHead
caller_head (Some who) fields = command_head who (drop 1 fields)
caller_head None fields = command_head 0 fields

-- what line n gives that has these fields
abbrev pub fields_head : Bool → ℕ → List (List ℕ) → Option LineHead
fields_head after n fields = if is_outcome_line fields then option_map (kept_head n) (kept_in after fields) else caller_head (caller_of fields) fields

abbrev pub line_head : Bool → ℕ → List ℕ → Option LineHead
line_head after n line = option_and_then (fields_head after n) (record_of line)

-- the command of a day with these items
abbrev pub day_command : DayHead → List Item → ScriptItem
day_command day items = step day.who (edit day.feed (Day day.service day.date items))

-- the item of a head, with the items of a day
abbrev pub with_items : LineHead → Ahead → Found ScriptItem
with_items (head.Whole item) behind = Came item behind
with_items (head.OfDay day) behind = and_then (items_of day.count behind) (λ items rest. Came (day_command day items) rest)

-- it has its shapes, and a desk may be asked it
abbrev pub IsSoundHead : LineHead → Type 0
IsSoundHead (head.Whole item) = IsRead item × IsItemWithin item × IsShapedScriptItem item
IsSoundHead (head.OfDay day) = (has_shape (codes "dddd-dd-dd") day.date.0 ≡ true) × (day.count ≤ 2000)
