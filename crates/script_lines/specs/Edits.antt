-- The edits of a feed's text.
use Rattle.std.specs.Prelude.{ℕ, zero, suc, List, [], ◌∷◌, Option, option_and_then}
use Rattle.si_causes.specs.Text.{text_lines}
use Rattle.input_lines.specs.Fields.{record_of}
use Rattle.journal_model.specs.declared.edit.Item.{Item}
use Rattle.journal_model.specs.declared.edit.Edit.{Edit}
use Rattle.journal_model.specs.declared.edit.Edit.TheVariants.{Day}
use Rattle.script_lines.specs.declared.heads.Head.{Head}
use Rattle.script_lines.specs.declared.heads.Head.TheVariants.{Whole, OfDay}
use Rattle.input_lines.specs.Ahead.{Ahead, Found, Came, Stop, and_then, first_row, on_line, stop_at, missing_at, ahead_in, values_ahead}
use Rattle.script_lines.specs.Items.{item_line}
use Rattle.script_lines.specs.Heads.{edit_head}

-- the item that the first line ahead is
abbrev pub first_item : Ahead → Found Item
first_item lines = and_then (first_row missing_at lines) (λ row behind. on_line row.0 (option_and_then item_line (record_of row.1)) behind)

-- so many items, each on the next line ahead
unfoldable pub items_of : ℕ → Ahead → Found (List Item)
items_of zero lines = Came [] lines
items_of (suc n) lines = and_then (first_item lines) (λ item behind. and_then (items_of n behind) (λ items rest. Came (item ∷ items) rest))

-- the edit of a head, with the items of a day
abbrev pub with_items : Head → Ahead → Found Edit
with_items (Whole edit) behind = Came edit behind
with_items (OfDay service day count) behind = and_then (items_of count behind) (λ items rest. Came (Day service day items) rest)

-- the edit whose line has number n, of its head
abbrev pub edit_from : ℕ → Option Head → Ahead → Found Edit
edit_from n head behind = and_then (on_line n head behind) with_items

-- the edit whose line has number n and these fields
abbrev pub read_edit : ℕ → List (List ℕ) → Ahead → Found Edit
read_edit n fields behind = edit_from n (edit_head fields) behind

-- the edit that begins with the first line ahead
abbrev pub first_edit : Ahead → Found Edit
first_edit lines = and_then (first_row stop_at lines) (λ row behind. edit_from row.0 (option_and_then edit_head (record_of row.1)) behind)

-- the edits ahead, and why no more is read
unfoldable pub edits_ahead : Ahead → List Edit × Stop
edits_ahead lines = values_ahead (λ (any : Unit {0}). first_edit) (λ (edit : Edit). tt) tt lines

-- the edits of a text, and their stop: the end, the first line that is no edit there, or the limit of a text
abbrev pub edits_of : List ℕ → List Edit × Stop
edits_of text = edits_ahead (ahead_in 1 (text_lines text))
