-- What is written reads back: rows and commands.
use Rattle.std.specs.Prelude.{◌≡◌, ◌≤◌, ◌+◌, ℕ, Bool, false, ◌==◌, List, [], ◌∷◌, ◌++◌, length, map, Some, decimal}
use Rattle.std.specs.List.{AllByRecursion}
use Rattle.csv.specs.Writing.{default_writer, row_body}
use Rattle.si_causes.specs.Lines.{raw_lines, shown}
use Rattle.guide_model.specs.Decoding.{IsKept}
use Rattle.input_lines.specs.Fields.{record_of}
use Rattle.input_lines.specs.Lines.{is_passed, record_lines}
use Rattle.input_lines.specs.Ahead.{Ahead, Tail, Came}
use Rattle.journal_model.specs.declared.edit.Item.{Item}
use Rattle.journal_model.specs.declared.step.Step.{Step}
use Rattle.journal_model.specs.Steps.{IsStepWithin, IsTypedStep}
use Rattle.script_lines.specs.declared.script.ScriptItem.TheVariants.{Step as step}
use Rattle.script_lines.specs.Script.{first_script_item, IsShapedStep}
use Rattle.journal_text.specs.Lines.{line_text, item_row}
use Rattle.journal_text.specs.Commands.{step_fields, step_items, command_text}

-- ---- rows

-- the line of these fields, without its LF
abbrev pub row_line : List (List ℕ) → List ℕ
row_line fields = row_body default_writer fields

-- a field that a line may begin with: its first byte is neither that of a line that is passed over nor of a byte order mark
abbrev pub IsFront : List ℕ → Type 0
IsFront [] = ⊥
IsFront (b ∷ bs) = ((b == 35) ≡ false) × ((b == 0xEF) ≡ false)

-- at least two fields, of which the first may begin a line
abbrev pub IsFronted : List (List ℕ) → Type 0
IsFronted [] = ⊥
IsFronted (field ∷ []) = ⊥
IsFronted (field ∷ other ∷ fields) = IsFront field

-- fields that read back from their line
pub record IsRow (fields : List (List ℕ)) : Type 0 where
  pub front : IsFronted fields
  pub kept : AllByRecursion IsKept fields
  pub short : length (row_line fields) ≤ 16384

-- the lines of a text, as a reader shows them
abbrev pub shown_lines : List ℕ → List (List ℕ)
shown_lines text = map shown (raw_lines text)

-- The line of a row comes first, whatever text stands behind it; it is not passed over, and its fields are those of the row.
pub record ReadsBack (fields : List (List ℕ)) (rest : List ℕ) : Type 0 where
  pub line : shown_lines (line_text fields ++ rest) ≡ row_line fields ∷ shown_lines rest
  pub passed : is_passed (row_line fields) ≡ false
  pub fields_are : record_of (row_line fields) ≡ Some fields

abbrev pub RowsReadBack : Type 0
RowsReadBack = (fields : List (List ℕ)) → IsRow fields → (rest : List ℕ) → ReadsBack fields rest

-- ---- commands

-- a number of at most nine digits
abbrev pub IsNumeralNumber : ℕ → Type 0
IsNumeralNumber n = n ≤ 999999999

abbrev pub command_row : ℕ → Step → List (List ℕ)
command_row who s = decimal who ∷ step_fields s

-- a line of at most 16,384 bytes
abbrev pub IsShort : List (List ℕ) → Type 0
IsShort fields = length (row_line fields) ≤ 16384

-- what is ahead in a text whose first line has number n, and then this
abbrev pub ahead_of : ℕ → List ℕ → Tail → Ahead
ahead_of n text tail = record { rows = record_lines n (shown_lines text); tail = tail }

-- the lines of a command
abbrev pub command_lines : Step → ℕ
command_lines s = 1 + length (step_items s)

-- A command that reads back. Its caller's number has at most nine digits, its starts, durations and days have their shapes, a rating
-- names a country, a day has at most 2,000 items, its moment can be written, and each of its lines has at most 16,384 bytes.
pub record IsReadableCommand (who : ℕ) (s : Step) : Type 0 where
  pub caller : IsNumeralNumber who
  pub shaped : IsShapedStep s
  pub within : IsStepWithin s
  pub typed : IsTypedStep s
  pub short : IsShort (command_row who s)
  pub items_short : AllByRecursion (λ (item : Item). IsShort (item_row item)) (step_items s)

-- The text of such a command reads as the command, whatever stands behind it.
abbrev pub CommandsReadBack : Type 0
CommandsReadBack =
    (who : ℕ) (s : Step) → IsReadableCommand who s → (after : Bool) (n : ℕ) (behind : List ℕ) (tail : Tail)
    → first_script_item after (ahead_of n (command_text who s ++ behind) tail) ≡ Came (step who s) (ahead_of (n + command_lines s) behind tail)
