-- The lines of made edits are read as the edits, up to the end.
use Rattle.std.proofs.Common.{◌≡◌, ◌≤◌, ◌+◌, ◌*◌, ℕ, List, [], ◌∷◌, ◌++◌, length, map, refl, ap, ◌∙◌, arith, append_assoc}
use Rattle.std.specs.Prelude.{Option, Some, flat_map, option_and_then}
use Rattle.std.specs.List.{AllByRecursion}
use Rattle.std.proofs.lemmas.List.{length-append}
use Rattle.input_lines.specs.Fields.{record_of}
use Rattle.input_lines.specs.Lines.{record_lines}
use Rattle.input_lines.specs.Ahead.{Ahead, Row, Tail, Found, Came, Stop, and_all, stop_at}
use Rattle.journal_model.specs.declared.edit.Item.{Item}
use Rattle.journal_model.specs.declared.edit.Edit.{Edit}
use Rattle.journal_model.specs.declared.edit.Edit.TheVariants.{Put, Withdraw, Clear, Name, Day}
use Rattle.journal_model.specs.Edits.{IsShaped, HasNumbers}
use Rattle.script_lines.specs.Heads.{edit_head}
use Rattle.script_lines.specs.Edits.{edit_from, first_edit, edits_ahead}
use Rattle.script_lines.specs.EditFields.{HaveFields, edit_fields, item_rows}
use Rattle.script_lines.proofs.EditBack.{edits_read_back}
use Rattle.script_lines.proofs.LinesLeft.{edits_go_on}
use Rattle.journal_text.specs.Lines.{line_text, item_row, item_text, items_of}
use Rattle.journal_text.specs.CommandBack.{row_line, shown_lines, ahead_of}
use Rattle.journal_text.proofs.RowBack.{rows_read_back}
use Rattle.epg_soak.proofs.PlainRows.{IsPlainRow, plain_is_row, line_short}
use Rattle.epg_soak.proofs.MadeLines.{edit_text}

-- an edit whose lines are plain
pub record IsPlainEdit (e : Edit) : Type 0 where
  pub shaped : IsShaped e
  pub numbers : HasNumbers e
  pub row : IsPlainRow (edit_fields e)
  pub rows : AllByRecursion (λ (item : Item). IsPlainRow (item_row item)) (items_of e)
  pub few : length (items_of e) ≤ 1344

-- ---- lines

abbrev lines_from : ℕ → List ℕ → List Row
lines_from n text = record_lines n (shown_lines text)

row_first : (fields : List (List ℕ)) (n : ℕ) (rest : List ℕ) → IsPlainRow fields → lines_from n (line_text fields ++ rest) ≡ (n, row_line fields) ∷ lines_from (n + 1) rest
row_first fields n rest h =
    let r = rows_read_back fields (plain_is_row fields h) rest in
    ap (record_lines n) r.line ∙ rw r.passed refl

row_fields : (fields : List (List ℕ)) → IsPlainRow fields → record_of (row_line fields) ≡ Some fields
row_fields fields h = (rows_read_back fields (plain_is_row fields h) []).fields_are

abbrev ArePlain : List Item → Type 0
ArePlain items = AllByRecursion (λ (item : Item). IsPlainRow (item_row item)) items

abbrev numbered : ℕ → List Item → List Row
numbered n [] = []
numbered n (item ∷ items) = (n, row_line (item_row item)) ∷ numbered (n + 1) items

items_first : (items : List Item) (n : ℕ) (rest : List ℕ) → ArePlain items → lines_from n (flat_map item_text items ++ rest) ≡ numbered n items ++ lines_from (n + length items) rest
items_first [] n rest h = ap (λ k. lines_from k rest) (let e : n ≡ n + 0 = omega arith in e)
items_first (item ∷ items) n rest h =
    let count : n + 1 + length items ≡ n + length (item ∷ items) = omega arith in
    ap (lines_from n) (append_assoc (item_text item) (flat_map item_text items) rest)
    ∙ row_first (item_row item) n (flat_map item_text items ++ rest) h.0
    ∙ ap (λ (l : List Row). (n, row_line (item_row item)) ∷ l) (items_first items (n + 1) rest h.1 ∙ ap (λ k. numbered (n + 1) items ++ lines_from k rest) count)

items_have : (items : List Item) (n : ℕ) → ArePlain items → HaveFields (numbered n items) (map item_row items)
items_have [] n h = refl
items_have (item ∷ items) n h = rw (row_fields (item_row item) h.0, items_have items (n + 1) h.1) refl

rows_have : (e : Edit) (n : ℕ) → ArePlain (items_of e) → HaveFields (numbered n (items_of e)) (item_rows e)
rows_have (Put service item) n h = refl
rows_have (Withdraw service event) n h = refl
rows_have (Clear service) n h = refl
rows_have (Name service provider name) n h = refl
rows_have (Day service date items) n h = items_have items n h

edit_lines : (e : Edit) (n : ℕ) (rest : List ℕ) → IsPlainEdit e
    → lines_from n (edit_text e ++ rest) ≡ (n, row_line (edit_fields e)) ∷ (numbered (n + 1) (items_of e) ++ lines_from (n + 1 + length (items_of e)) rest)
edit_lines e n rest h =
    ap (lines_from n) (append_assoc (line_text (edit_fields e)) (flat_map item_text (items_of e)) rest)
    ∙ row_first (edit_fields e) n (flat_map item_text (items_of e) ++ rest) h.row
    ∙ ap (λ (l : List Row). (n, row_line (edit_fields e)) ∷ l) (items_first (items_of e) (n + 1) rest h.rows)

-- ---- edits

first_reads : (e : Edit) (n : ℕ) (rest : List ℕ) (tail : Tail) → IsPlainEdit e
    → first_edit (ahead_of n (edit_text e ++ rest) tail) ≡ Came e (ahead_of (n + 1 + length (items_of e)) rest tail)
first_reads e n rest tail h =
    let more = lines_from (n + 1 + length (items_of e)) rest in
    let behind : Ahead = record { rows = numbered (n + 1) (items_of e) ++ more; tail = tail } in
    ap (λ (l : List Row). first_edit (record { rows = l; tail = tail })) (edit_lines e n rest h)
    ∙ ap (λ (o : Option (List (List ℕ))). edit_from n (option_and_then edit_head o) behind) (row_fields (edit_fields e) h.row)
    ∙ edits_read_back e h.shaped h.numbers n (numbered (n + 1) (items_of e)) more tail (rows_have e (n + 1) h.rows)

pub edits_read : (edits : List Edit) (n : ℕ) (tail : Tail) → AllByRecursion IsPlainEdit edits → edits_ahead (ahead_of n (flat_map edit_text edits) tail) ≡ (edits, stop_at tail)
edits_read [] n tail h = edits_go_on (ahead_of n [] tail)
edits_read (e ∷ edits) n tail h =
    edits_go_on (ahead_of n (edit_text e ++ flat_map edit_text edits) tail)
    ∙ ap (λ (r : Found Edit). and_all r (λ (edit : Edit). edits_ahead)) (first_reads e n (flat_map edit_text edits) tail h.0)
    ∙ ap (λ (others : List Edit × Stop). let p : List Edit × Stop = (e ∷ others.0, others.1) in p) (edits_read edits (n + 1 + length (items_of e)) tail h.1)

-- ---- how long they are

items_short : (items : List Item) → ArePlain items → length (flat_map item_text items) ≤ 232 * length items
items_short [] h = omega arith
items_short (item ∷ items) h =
    let a = line_short (item_row item) h.0 in
    let more = items_short items h.1 in
    omega (arith, a, more, length-append (item_text item) (flat_map item_text items))

edit_short : (e : Edit) → IsPlainEdit e → length (edit_text e) ≤ 312040
edit_short e h =
    let a = line_short (edit_fields e) h.row in
    let b = items_short (items_of e) h.rows in
    let few = h.few in
    omega (arith, a, b, few, length-append (line_text (edit_fields e)) (flat_map item_text (items_of e)))

pub edits_short : (edits : List Edit) → AllByRecursion IsPlainEdit edits → length (flat_map edit_text edits) ≤ 312040 * length edits
edits_short [] h = omega arith
edits_short (e ∷ edits) h =
    let a = edit_short e h.0 in
    let more = edits_short edits h.1 in
    omega (arith, a, more, length-append (edit_text e) (flat_map edit_text edits))
