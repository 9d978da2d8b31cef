-- How many lines of a feed's text are those of items.
use Rattle.std.proofs.Common.{◌≡◌, ◌≤◌, ◌+◌, ℕ, true, false, List, [], ◌∷◌, ◌++◌, length, refl, ap, ◌∙◌, arith, append_assoc}
use Rattle.std.specs.Prelude.{codes, decimal, flat_map}
use Rattle.std.specs.List.{AllByRecursion, filter, sum_by}
use Rattle.std.proofs.lemmas.List.Sums.{sum_by-cons}
use Rattle.journal_model.specs.declared.edit.Item.{Item}
use Rattle.journal_model.specs.declared.edit.Edit.{Edit}
use Rattle.journal_model.specs.declared.edit.Edit.TheVariants.{Put, Withdraw, Clear, Name, Day}
use Rattle.script_lines.specs.EditFields.{edit_fields, item_fields}
use Rattle.journal_text.specs.Lines.{line_text, item_row, item_text, items_of}
use Rattle.journal_text.specs.CommandBack.{row_line, shown_lines}
use Rattle.journal_text.proofs.RowBack.{rows_read_back}
use Rattle.si_workload.specs.Texts.{feed_text}
use Rattle.epg_soak.specs.WorkloadLoad.{soak_edits}
use Rattle.epg_soak.specs.Journals.{is_item, item_lines}
use Rattle.epg_soak.proofs.PlainRows.{IsPlainRow, plain_is_row, plain_line}
use Rattle.epg_soak.proofs.MadeLines.{edit_text, feed_lines}
use Rattle.epg_soak.proofs.Reading.{IsPlainEdit}
use Rattle.epg_soak.proofs.MadeEdits.{edits_plain, text_whole}

-- how many items edits have
abbrev pub item_count : List Edit → ℕ
item_count edits = sum_by (λ (e : Edit). length (items_of e)) edits

abbrev items_in : List ℕ → ℕ
items_in text = length (filter is_item (shown_lines text))

item_first : (item : Item) → IsPlainRow (item_row item) → is_item (row_line (item_row item)) ≡ true
item_first item h = ap is_item (plain_line (codes "item") (item_fields item) h.plain)

other_first : (e : Edit) → IsPlainRow (edit_fields e) → is_item (row_line (edit_fields e)) ≡ false
other_first (Put service item) h = ap is_item (plain_line (codes "put") (decimal service ∷ item_fields item) h.plain)
other_first (Withdraw service event) h = ap is_item (plain_line (codes "withdraw") (decimal service ∷ decimal event ∷ []) h.plain)
other_first (Clear service) h = ap is_item (plain_line (codes "clear") (decimal service ∷ []) h.plain)
other_first (Name service provider name) h = ap is_item (plain_line (codes "name") (decimal service ∷ provider ∷ name ∷ []) h.plain)
other_first (Day service date items) h = ap is_item (plain_line (codes "day") (decimal service ∷ date.0 ∷ decimal (length items) ∷ []) h.plain)

first_line : (fields : List (List ℕ)) (rest : List ℕ) → IsPlainRow fields → shown_lines (line_text fields ++ rest) ≡ row_line fields ∷ shown_lines rest
first_line fields rest h = (rows_read_back fields (plain_is_row fields h) rest).line

items_counted : (items : List Item) (rest : List ℕ) → AllByRecursion (λ (item : Item). IsPlainRow (item_row item)) items → items_in (flat_map item_text items ++ rest) ≡ length items + items_in rest
items_counted [] rest h = omega arith
items_counted (item ∷ items) rest h =
    let more = items_counted items rest h.1 in
    let line = ap (λ (l : List (List ℕ)). length (filter is_item l)) (ap shown_lines (append_assoc (item_text item) (flat_map item_text items) rest) ∙ first_line (item_row item) (flat_map item_text items ++ rest) h.0) in
    let one : length (filter is_item (row_line (item_row item) ∷ shown_lines (flat_map item_text items ++ rest))) ≡ 1 + items_in (flat_map item_text items ++ rest) = rw (item_first item h.0) (omega arith) in
    omega (arith, more, line, one)

edit_counted : (e : Edit) (rest : List ℕ) → IsPlainEdit e → items_in (edit_text e ++ rest) ≡ length (items_of e) + items_in rest
edit_counted e rest h =
    let text = flat_map item_text (items_of e) in
    let more = items_counted (items_of e) rest h.rows in
    let line = ap (λ (l : List (List ℕ)). length (filter is_item l)) (ap shown_lines (append_assoc (line_text (edit_fields e)) text rest) ∙ first_line (edit_fields e) (text ++ rest) h.row) in
    let none : length (filter is_item (row_line (edit_fields e) ∷ shown_lines (text ++ rest))) ≡ items_in (text ++ rest) = rw (other_first e h.row) refl in
    omega (arith, more, line, none)

edits_counted : (edits : List Edit) → AllByRecursion IsPlainEdit edits → items_in (flat_map edit_text edits) ≡ item_count edits
edits_counted [] h = refl
edits_counted (e ∷ edits) h =
    let more = edits_counted edits h.1 in
    let first = edit_counted e (flat_map edit_text edits) h.0 in
    let sum = sum_by-cons (λ (x : Edit). length (items_of x)) e edits in
    omega (arith, more, first, sum)

pub feed_counted : (number feed : ℕ) → 1 ≤ feed → feed ≤ 2 → item_lines (feed_text number feed) ≡ item_count (soak_edits number feed)
feed_counted number feed low high =
    text_whole number feed low high ∙ ap items_in (feed_lines number feed low high) ∙ edits_counted (soak_edits number feed) (edits_plain number feed low high)
