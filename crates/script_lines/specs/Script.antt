-- Script lines: commands, each with its caller, and the outcome that a line behind a command keeps.
use Rattle.std.specs.Prelude.{ℕ, Bool, true, false, List, [], ◌∷◌, drop, Option, Some, None, Result, Ok, Err, option_map, if◌then◌else◌, codes}
use Rattle.si_causes.specs.Text.{text_lines}
use Rattle.input_lines.specs.Fields.{record_of}
use Rattle.input_lines.specs.Numbers.{is_word, number_in, numeral_of}
use Rattle.journal_model.specs.declared.edit.Edit.{Edit}
use Rattle.journal_model.specs.Edits.{IsShaped}
use Rattle.input_lines.specs.declared.stop.EditStop.{EditStop}
use Rattle.input_lines.specs.Ahead.{Ahead, Found, Came, Stop, and_then, first_row, on_line, stop_at, ahead_in, values_ahead}
use Rattle.script_lines.specs.Edits.{read_edit}
use Rattle.journal_model.specs.declared.control.Control.{Control}
use Rattle.journal_model.specs.declared.control.Control.TheVariants.{Tick as tick, Publish as publish}
use Rattle.journal_model.specs.declared.step.Step.{Step}
use Rattle.journal_model.specs.declared.step.Step.TheVariants.{Edit as edit, Tick, Publish, Swap}
use Rattle.journal_model.specs.declared.step.Outcome.{Outcome}
use Rattle.journal_model.specs.Steps.{IsStepWithin, Command, IsInWindow}
use Rattle.script_lines.specs.Controls.{control_of}
use Rattle.script_lines.specs.declared.script.ScriptItem.{ScriptItem}
use Rattle.script_lines.specs.declared.script.ScriptItem.TheVariants.{Step as step, Kept, End}
use Rattle.script_lines.specs.Outcomes.{outcome_of_fields}

-- `swap`
abbrev pub is_swap : List (List ℕ) → Bool
is_swap (word ∷ []) = is_word (codes "swap") word
is_swap fields = false

abbrev pub control_step : Control → Step
control_step (tick at) = Tick at
control_step publish = Publish

-- the step that is no edit: `swap`, or what a control line asks for
abbrev pub short_step : List (List ℕ) → Option Step
short_step fields = if is_swap fields then Some Swap else option_map control_step (control_of fields)

-- the N of `feed,N,` from 0 to 255
abbrev pub feed_of : List (List ℕ) → Option ℕ
feed_of (word ∷ feed ∷ fields) = if is_word (codes "feed") word then number_in 0 255 feed else None
feed_of fields = None

-- the command of an edit of a feed
abbrev pub feed_command : ℕ → ℕ → Found Edit → Found Command
feed_command who feed found = and_then found (λ e rest. Came (who, edit feed e) rest)

-- the command whose line has number n: a step that is no edit, or else `feed,N,` and the fields of an edit
abbrev pub command_with : ℕ → ℕ → Option Step → List (List ℕ) → Ahead → Found Command
command_with who n (Some short) fields behind = Came (who, short) behind
command_with who n None fields behind = and_then (on_line n (feed_of fields) behind) (λ feed more. feed_command who feed (read_edit n (drop 2 fields) more))

abbrev pub command_of_caller : ℕ → ℕ → List (List ℕ) → Ahead → Found Command
command_of_caller who n fields behind = command_with who n (short_step fields) fields behind

-- the caller's number, where the first field is one
abbrev pub caller_of : List (List ℕ) → Option ℕ
caller_of [] = None
caller_of (field ∷ fields) = numeral_of field

abbrev pub command_by : Option ℕ → ℕ → List (List ℕ) → Ahead → Found Command
command_by (Some who) n fields behind = command_of_caller who n (drop 1 fields) behind
command_by None n fields behind = command_of_caller 0 n fields behind

-- the command whose line has number n: behind its caller's number, or without one of caller 0
abbrev pub read_command : ℕ → List (List ℕ) → Ahead → Found Command
read_command n fields behind = command_by (caller_of fields) n fields behind

-- whether a line is an outcome line
abbrev pub is_outcome_line : List (List ℕ) → Bool
is_outcome_line [] = false
is_outcome_line (word ∷ fields) = is_word (codes "=") word

-- the outcome that an outcome line keeps, where it may stand
abbrev pub kept_in : Bool → List (List ℕ) → Option Outcome
kept_in after fields = if after then outcome_of_fields (drop 1 fields) else None

abbrev pub step_item : Found Command → Found ScriptItem
step_item found = and_then found (λ command rest. Came (step command.0 command.1) rest)

abbrev pub kept_item : ℕ → Found Outcome → Found ScriptItem
kept_item n found = and_then found (λ outcome rest. Came (Kept n outcome) rest)

-- the command or the kept outcome whose line has number n and these fields
abbrev pub read_item : Bool → ℕ → List (List ℕ) → Ahead → Found ScriptItem
read_item after n fields behind =
    if is_outcome_line fields then kept_item n (on_line n (kept_in after fields) behind)
    else step_item (read_command n fields behind)

-- the same of a line with these fields, where it has any
abbrev pub item_on : Bool → ℕ → Option (List (List ℕ)) → Ahead → Found ScriptItem
item_on after n fields behind = and_then (on_line n fields behind) (read_item after n)

-- the command or the kept outcome that begins with the first line ahead; `after` says whether a command came just before
abbrev pub first_script_item : Bool → Ahead → Found ScriptItem
first_script_item after lines = and_then (first_row stop_at lines) (λ row behind. item_on after row.0 (record_of row.1) behind)

-- an outcome may be kept behind a command alone
abbrev pub is_command : ScriptItem → Bool
is_command (step who s) = true
is_command (Kept n outcome) = false
is_command End = false

-- an item that stands on lines
abbrev pub IsRead : ScriptItem → Type 0
IsRead (step who s) = Unit {0}
IsRead (Kept n outcome) = Unit {0}
IsRead End = ⊥

-- the item that was read next, or none at the end
abbrev pub next_of : Result ScriptItem EditStop → Result (Option ScriptItem) EditStop
next_of (Ok (step who s)) = Ok (Some (step who s))
next_of (Ok (Kept n outcome)) = Ok (Some (Kept n outcome))
next_of (Ok End) = Ok None
next_of (Err stop) = Err stop

-- the items ahead of a reader, and why no more is read
unfoldable pub items_ahead : Bool → Ahead → List ScriptItem × Stop
items_ahead after lines = values_ahead first_script_item is_command after lines

-- the items of a script, and its stop: the end, the first line that is no command or outcome there, or the limit of a text
abbrev pub script_items : List ℕ → List ScriptItem × Stop
script_items text = items_ahead false (ahead_in 1 (text_lines text))

-- a command, and the outcome that is kept behind it, with the number of its line
abbrev pub Asked : Type 0
Asked = Command × Option (ℕ × Outcome)

-- the outcome that is kept first
abbrev pub kept_first : List ScriptItem → Option (ℕ × Outcome)
kept_first (Kept n outcome ∷ items) = Some (n, outcome)
kept_first other = None

abbrev pub asked_by : List ScriptItem → List Asked
asked_by [] = []
asked_by (step who s ∷ items) = ((who, s), kept_first items) ∷ asked_by items
asked_by (Kept n outcome ∷ items) = asked_by items
asked_by (End ∷ items) = asked_by items

-- the commands of a script, each with the outcome that is kept behind it, and the script's stop
abbrev pub script_of : List ℕ → List Asked × Stop
script_of text = (asked_by (script_items text).0, (script_items text).1)

-- an edit as lines can give it
abbrev pub IsShapedStep : Step → Type 0
IsShapedStep (edit feed e) = IsShaped e
IsShapedStep (Tick at) = Unit {0}
IsShapedStep Publish = Unit {0}
IsShapedStep Swap = Unit {0}

-- what a desk may be asked, and what can be written
abbrev pub IsItemWithin : ScriptItem → Type 0
IsItemWithin (step who s) = IsStepWithin s
IsItemWithin (Kept n outcome) = IsInWindow outcome
IsItemWithin End = Unit {0}

abbrev pub IsShapedScriptItem : ScriptItem → Type 0
IsShapedScriptItem (step who s) = IsShapedStep s
IsShapedScriptItem (Kept n outcome) = Unit {0}
IsShapedScriptItem End = Unit {0}
