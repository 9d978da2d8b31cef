-- The items of a script among which a line at fault is one too, so that reading goes on behind it.
use Rattle.std.specs.Prelude.{ℕ, ◌==◌, nat_eq, nat_le, ◌||◌, Bool, false, List, [], ◌∷◌, drop, Option, Some, None, if◌then◌else◌, bytes_eq, codes}
use Rattle.std.specs.List.{starts_with}
use Rattle.input_lines.specs.Ahead.{Ahead, Row, Found, Came, Stopped, Stop, NoCommand, values_ahead}
use Rattle.script_lines.specs.declared.script.ScriptItem.{ScriptItem}
use Rattle.script_lines.specs.Script.{first_script_item, is_command}
use Rattle.script_notes.specs.declared.noting.Noting.{Noting}
use Rattle.script_notes.specs.declared.noting.Noting.TheVariants.{Item, Bad}
use Rattle.script_notes.specs.declared.why.Why.{Why}
use Rattle.script_notes.specs.declared.why.Why.TheVariants.{NoItem}
use Rattle.script_notes.specs.Faults.{why_line, why_item_line}

-- ---- the lines behind one at fault

-- those from number n on
abbrev pub from_number : ℕ → List Row → List Row
from_number n [] = []
from_number n (row ∷ rows) = if nat_le n row.0 then row ∷ rows else from_number n rows

-- what is ahead from line n on, behind the first line
abbrev pub rows_from : ℕ → Ahead → Ahead
rows_from n lines = record { rows = from_number n (drop 1 lines.rows); tail = lines.tail }

-- A line that belongs to the command before it, an item of a day or an outcome: it is `item` or `=`, or has a comma behind that.
abbrev pub is_attached : List ℕ → Bool
is_attached line =
    bytes_eq line (codes "item") || starts_with nat_eq line (codes "item,") || bytes_eq line (codes "=") || starts_with nat_eq line (codes "=,")

abbrev pub past_attached : List Row → List Row
past_attached [] = []
past_attached (row ∷ rows) = if is_attached row.1 then past_attached rows else row ∷ rows

-- what is ahead without the attached lines in front
abbrev pub unattached : Ahead → Ahead
unattached lines = record { rows = past_attached lines.rows; tail = lines.tail }

-- ---- the next noting

abbrev pub told : Option Why → Why
told None = NoItem
told (Some why) = why

-- of the lines behind a command, line n stands in place of an item
abbrev pub why_item_at : ℕ → List Row → Why
why_item_at n [] = NoItem
why_item_at n (row ∷ rows) = if row.0 == n then told (why_item_line row.1) else why_item_at n rows

-- Why line n is at fault: the first line as a command or an outcome, another one as an item; a line that is missing is no item.
abbrev pub why_at : Bool → ℕ → List Row → Why
why_at after n [] = NoItem
why_at after n (row ∷ rows) = if row.0 == n then told (why_line after row.1) else why_item_at n rows

-- The item that was found of these lines. A line at fault is one too, and behind it the lines from it on are ahead, without the first and
-- without the attached lines in front.
abbrev pub noted : Bool → Ahead → Found ScriptItem → Found Noting
noted after lines (Came item behind) = Came (Item item) behind
noted after lines (Stopped (NoCommand n)) = Came (Bad n (why_at after n lines.rows)) (unattached (rows_from n lines))
noted after lines (Stopped stop) = Stopped stop

abbrev pub first_noting : Bool → Ahead → Found Noting
first_noting after lines = noted after lines (first_script_item after lines)

-- an outcome may be kept behind a command alone
abbrev pub is_command_noting : Noting → Bool
is_command_noting (Item item) = is_command item
is_command_noting (Bad n why) = false

-- the notings ahead, and why no more is read
unfoldable pub notings_ahead : Bool → Ahead → List Noting × Stop
notings_ahead after lines = values_ahead first_noting is_command_noting after lines
