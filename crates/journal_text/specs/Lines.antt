-- The lines of fields, and the items of an edit, which have lines of their own.
use Rattle.std.specs.Prelude.{◌<◌, ℕ, ◌++◌, ◌+◌, ◌-◌, List, [], ◌∷◌, codes}
use Rattle.csv.specs.Writing.{default_writer, row_body, next_sep, field_text}
use Rattle.journal_model.specs.declared.edit.Item.{Item}
use Rattle.journal_model.specs.declared.edit.Edit.{Edit}
use Rattle.journal_model.specs.declared.edit.Edit.TheVariants.{Day}
use Rattle.script_lines.specs.EditFields.{item_fields}

-- the items of a day
abbrev pub items_of : Edit → List Item
items_of (Day service day items) = items
items_of other = []

-- a line in the making: its text, and how many fields it has
pub record Line : Type 0 where
  pub text : List ℕ
  pub fields : ℕ

-- a line with one more field: behind a comma, unless it is the first
abbrev pub and_field : Line → List ℕ → Line
and_field line field = record { text = line.text ++ (next_sep default_writer line.fields ++ field_text default_writer field); fields = line.fields + 1 }

abbrev pub no_fields : Line
no_fields = record { text = []; fields = 0 }

-- its text, with LF at its end
abbrev pub ended : Line → List ℕ
ended line = line.text ++ 10 ∷ []

-- a line that may get one field more, and that many besides
abbrev pub IsOpenFor : ℕ → Line → Type 0
IsOpenFor n line = line.fields < 100 - n

abbrev pub and_fields : Line → List (List ℕ) → Line
and_fields line [] = line
and_fields line (field ∷ fields) = and_fields (and_field line field) fields

-- the text of a line of these fields
abbrev pub line_text : List (List ℕ) → List ℕ
line_text fields = row_body default_writer fields ++ 10 ∷ []

-- the fields of the line of an item of a day
abbrev pub item_row : Item → List (List ℕ)
item_row item = codes "item" ∷ item_fields item

abbrev pub item_text : Item → List ℕ
item_text item = line_text (item_row item)
