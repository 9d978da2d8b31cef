-- What is ahead gets fewer lines with each edit.
use Rattle.std.proofs.Common.{◌≤◌, ◌-◌, ℕ, zero, suc, List, ◌∷◌, length, arith}
use Rattle.std.specs.Prelude.{Option}
use Rattle.input_lines.specs.Ahead.{Ahead, Row, Found, Came, first_row, missing_at, on_line, and_then}
use Rattle.input_lines.proofs.ValuesAhead.{Within, then_within, row_within, line_within, values_go_on}
use Rattle.journal_model.specs.declared.edit.Item.{Item}
use Rattle.journal_model.specs.declared.edit.Edit.{Edit}
use Rattle.journal_model.specs.declared.edit.Edit.TheVariants.{Day}
use Rattle.script_lines.specs.declared.heads.Head.{Head}
use Rattle.script_lines.specs.declared.heads.Head.TheVariants.{Whole, OfDay}
use Rattle.script_lines.specs.Heads.{edit_head}
use Rattle.script_lines.specs.Edits.{first_item, items_of, with_items, edit_from, read_edit, edits_ahead}
use Rattle.script_lines.specs.Laws.{EditsGoOn}
use Rattle.script_lines.proofs.EditFacts.{item_in, head_in}

item_within : (k : ℕ) (lines : Ahead) → length lines.rows ≤ k → Within k (first_item lines)
item_within k lines h =
    then_within (length lines.rows - 1) k (first_row missing_at lines) (λ row behind. on_line row.0 (item_in row.1) behind) (row_within missing_at lines.rows lines.tail)
    (λ row behind le. line_within k row.0 (item_in row.1) behind (omega arith))

items_within : (k n : ℕ) (lines : Ahead) → length lines.rows ≤ k → Within k (items_of n lines)
unfolding items_of
items_within k zero lines h = h
items_within k (suc n) lines h =
    then_within k k (first_item lines) (λ item behind. and_then (items_of n behind) (λ items rest. Came (item ∷ items) rest)) (item_within k lines h)
    (λ item behind le. then_within k k (items_of n behind) (λ items rest. let r : Found (List Item) = Came (item ∷ items) rest in r) (items_within k n behind le) (λ items rest le2. le2))

head_within : (k : ℕ) (head : Head) (behind : Ahead) → length behind.rows ≤ k → Within k (with_items head behind)
head_within k (Whole edit) behind h = h
head_within k (OfDay service day count) behind h =
    then_within k k (items_of count behind) (λ items rest. let r : Found Edit = Came (Day service day items) rest in r) (items_within k count behind h) (λ items rest le. le)

edit_within : (k n : ℕ) (head : Option Head) (behind : Ahead) → length behind.rows ≤ k → Within k (edit_from n head behind)
edit_within k n head behind h = then_within k k (on_line n head behind) with_items (line_within k n head behind h) (λ value rest le. head_within k value rest le)

pub read_within : (k n : ℕ) (fields : List (List ℕ)) (behind : Ahead) → length behind.rows ≤ k → Within k (read_edit n fields behind)
read_within k n fields behind h = edit_within k n (edit_head fields) behind h

pub edits_go_on : EditsGoOn
unfolding edits_ahead
edits_go_on lines =
    values_go_on (λ (any : Unit {0}) (row : Row) (behind : Ahead). edit_from row.0 (head_in row.1) behind) (λ (edit : Edit). tt)
    (λ any k row behind le. edit_within k row.0 (head_in row.1) behind le) tt lines
