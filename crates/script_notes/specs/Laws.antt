-- Why a line is at fault is asked of the line alone, and is nothing exactly where it gives what may stand there.
use Rattle.std.specs.Prelude.{◌≡◌, ℕ, Bool, List, is_none, is_some}
use Rattle.std.specs.List.{AllByRecursion}
use Rattle.input_lines.specs.Fields.{record_of}
use Rattle.input_lines.specs.Ahead.{Ahead, and_all, and_then, on_line}
use Rattle.script_lines.specs.Items.{item_line}
use Rattle.script_lines.specs.Laws.{IsScriptItemInWindow, IsTypedScriptItem}
use Rattle.script_lines.specs.Script.{item_on}
use Rattle.script_notes.specs.declared.noting.Noting.{Noting}
use Rattle.script_notes.specs.declared.noting.Noting.TheVariants.{Item, Bad}
use Rattle.script_notes.specs.Faults.{why_fields, why_item, why_item_line, why_line}
use Rattle.script_notes.specs.Heads.{fields_head, line_head, with_items}
use Rattle.script_notes.specs.Notings.{first_noting, is_command_noting, notings_ahead}
use Rattle.script_notes.specs.Walks.{item_in}

-- A line is read as what it gives, and then the items of a day.
abbrev pub LinesAreHeads : Type 0
LinesAreHeads = (after : Bool) (n : ℕ) (line : List ℕ) (behind : Ahead) → item_on after n (record_of line) behind ≡ and_then (on_line n (line_head after n line) behind) with_items

-- There is a reason exactly where fields are no command and no outcome there, and where they are no item.
abbrev pub WhyIsExact : Type 0
WhyIsExact =
    ((after : Bool) (n : ℕ) (fields : List (List ℕ)) → is_some (why_fields after fields) ≡ is_none (fields_head after n fields))
    × ((fields : List (List ℕ)) → is_some (why_item fields) ≡ is_none (item_line fields))

-- So it is of lines.
abbrev pub WhyOfLinesIsExact : Type 0
WhyOfLinesIsExact =
    ((after : Bool) (n : ℕ) (line : List ℕ) → is_some (why_line after line) ≡ is_none (line_head after n line))
    × ((line : List ℕ) → is_some (why_item_line line) ≡ is_none (item_in line))

-- The notings ahead are the first of them and those of what is ahead behind it.
abbrev pub NotingsGoOn : Type 0
NotingsGoOn = (after : Bool) (lines : Ahead) → notings_ahead after lines ≡ and_all (first_noting after lines) (λ (noting : Noting). notings_ahead (is_command_noting noting))

abbrev pub IsTypedNoting : Noting → Type 0
IsTypedNoting (Item item) = IsTypedScriptItem item
IsTypedNoting (Bad n why) = Unit {0}

abbrev pub IsNotingInWindow : Noting → Type 0
IsNotingInWindow (Item item) = IsScriptItemInWindow item
IsNotingInWindow (Bad n why) = Unit {0}

-- Each edit among them has numbers as wide as their fields, and texts that may be kept; each tick is at a moment that 16 bits of days can
-- say.
abbrev pub NotingsAreTyped : Type 0
NotingsAreTyped = (after : Bool) (lines : Ahead) → AllByRecursion IsTypedNoting (notings_ahead after lines).0

abbrev pub NotingsAreInWindow : Type 0
NotingsAreInWindow = (after : Bool) (lines : Ahead) → AllByRecursion IsNotingInWindow (notings_ahead after lines).0
