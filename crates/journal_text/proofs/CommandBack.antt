-- Commands read back from their text.
use Rattle.std.proofs.Common.{◌≡◌, ◌==◌, ◌∙◌, ◌<◌, ◌≤◌, ◌+◌, ◌*◌, ◌++◌, ◌∷◌, [], ℕ, List, Bool, Some, None, refl, ap, true, false, arith, length, map, append_assoc}
use Rattle.std.specs.Prelude.{codes, decimal, flat_map, if◌then◌else◌}
use Rattle.std.specs.List.{list_all, AllByRecursion}
use Rattle.std.proofs.lemmas.Bool.Decides.{nat_tests}
use Rattle.std.proofs.lemmas.List.Elements.{recursion_from_All}
use Rattle.std.proofs.lemmas.Bool.{and_parts}
use Rattle.si_time.specs.Moments.{moment_text}
use Rattle.si_time.specs.declared.moment.Moment.{Moment}
use Rattle.input_lines.specs.Fields.{record_of}
use Rattle.input_lines.specs.Lines.{record_lines}
use Rattle.input_lines.specs.Numbers.{is_word, is_digit}
use Rattle.journal_model.specs.declared.edit.Item.{Item}
use Rattle.journal_model.specs.declared.edit.Edit.{Edit}
use Rattle.journal_model.specs.declared.edit.Edit.TheVariants.{Day}
use Rattle.input_lines.specs.Ahead.{Ahead, Row, Tail, Came, and_then, on_line}
use Rattle.script_lines.specs.Edits.{read_edit}
use Rattle.journal_model.specs.Edits.{IsShapedItem, IsShaped, IsTypedItem, IsTypedEdit}
use Rattle.script_lines.specs.EditFields.{HaveFields, edit_fields, item_rows}
use Rattle.script_lines.proofs.EditBack.{edits_read_back}
use Rattle.script_lines.proofs.EditTypes.{typed_numbers}
use Rattle.journal_model.specs.declared.step.Step.{Step}
use Rattle.journal_model.specs.declared.step.Step.TheVariants.{Edit as edit, Tick, Publish, Swap}
use Rattle.script_lines.specs.Controls.{control_of}
use Rattle.journal_model.specs.Steps.{IsStepWithin, IsTypedStep}
use Rattle.script_lines.specs.declared.script.ScriptItem.TheVariants.{Step as step}
use Rattle.journal_text.specs.Lines.{line_text, item_text, item_row, items_of}
use Rattle.journal_text.specs.Commands.{command_text, step_fields, step_items}
use Rattle.script_lines.specs.Script.{feed_of, feed_command, short_step, command_with, command_of_caller, command_by, read_command, kept_in, kept_item, step_item, read_item, item_on, first_script_item, IsShapedStep}
use Rattle.journal_text.specs.CommandBack.{CommandsReadBack, IsNumeralNumber, IsRow, IsShort, command_row, row_line, shown_lines, ahead_of, command_lines}
use Rattle.journal_text.proofs.RowBack.{rows_read_back}
use Rattle.script_lines.proofs.NumberBack.{number_back, numeral_back, moment_back, digits_of, low}
use Rattle.journal_text.proofs.CommandFields.{item_row_kept, command_kept, command_front}

-- ---- the lines of rows

abbrev pub lines_from : ℕ → List ℕ → List Row
lines_from n text = record_lines n (shown_lines text)

-- a row comes first
pub row_first : (fields : List (List ℕ)) (n : ℕ) (rest : List ℕ) → IsRow fields → lines_from n (line_text fields ++ rest) ≡ (n, row_line fields) ∷ lines_from (n + 1) rest
row_first fields n rest row =
    let r = rows_read_back fields row rest in
    ap (record_lines n) r.line ∙ rw r.passed refl

pub row_fields : (fields : List (List ℕ)) → IsRow fields → record_of (row_line fields) ≡ Some fields
row_fields fields row = (rows_read_back fields row []).fields_are

-- the rows of items, numbered
abbrev pub numbered : ℕ → List Item → List Row
numbered n [] = []
numbered n (item ∷ items) = (n, row_line (item_row item)) ∷ numbered (n + 1) items

abbrev pub AreRows : List Item → Type 0
AreRows items = AllByRecursion (λ (item : Item). IsRow (item_row item)) items

pub items_first : (items : List Item) (n : ℕ) (rest : List ℕ) → AreRows items → lines_from n (flat_map item_text items ++ rest) ≡ numbered n items ++ lines_from (n + length items) rest
items_first [] n rest h = ap (λ k. lines_from k rest) (let e : n ≡ n + 0 = omega arith in e)
items_first (item ∷ items) n rest h =
    let count : n + 1 + length items ≡ n + length (item ∷ items) = omega arith in
    ap (lines_from n) (append_assoc (item_text item) (flat_map item_text items) rest)
    ∙ row_first (item_row item) n (flat_map item_text items ++ rest) h.0
    ∙ ap (λ (l : List Row). (n, row_line (item_row item)) ∷ l) (items_first items (n + 1) rest h.1 ∙ ap (λ k. numbered (n + 1) items ++ lines_from k rest) count)

items_have : (items : List Item) (n : ℕ) → AreRows items → HaveFields (numbered n items) (map item_row items)
items_have [] n h = refl
items_have (item ∷ items) n h =
    rw (row_fields (item_row item) h.0, items_have items (n + 1) h.1) refl

-- ---- a command

-- the items of an edit are those that it reads back from
rows_have : (e : Edit) (n : ℕ) → AreRows (items_of e) → HaveFields (numbered n (items_of e)) (item_rows e)
rows_have (Day service day items) n h = items_have items n h
rows_have other n h = refl

abbrev pub behind_rows : List Row → List Row → Tail → Ahead
behind_rows rows more tail = record { rows = rows ++ more; tail = tail }

pub feed_short : (feed : List ℕ) (fields : List (List ℕ)) → short_step (codes "feed" ∷ feed ∷ fields) ≡ None
unfolding control_of
feed_short feed fields = refl

pub tick_short : (at : Moment) → at.0 < 65536 * 86400 → short_step (codes "tick" ∷ moment_text at.0 ∷ []) ≡ Some (Tick at)
unfolding control_of
tick_short at h = rw (moment_back at h) refl

pub publish_short : short_step (codes "publish" ∷ []) ≡ Some Publish
unfolding control_of
publish_short = refl

pub swap_short : short_step (codes "swap" ∷ []) ≡ Some Swap
swap_short = refl

short_reads : (who n : ℕ) (fields : List (List ℕ)) (s : Step) (a : Ahead) → short_step fields ≡ Some s → command_of_caller who n fields a ≡ Came (who, s) a
short_reads who n fields s a e = ap (λ o. command_with who n o fields a) e

edit_reads : (who n feed : ℕ) (e : Edit) (rows more : List Row) (tail : Tail) → IsShaped e → feed ≤ 255 → IsTypedEdit e → HaveFields rows (item_rows e)
    → command_of_caller who n (codes "feed" ∷ decimal feed ∷ edit_fields e) (behind_rows rows more tail) ≡ Came (who, edit feed e) (record { rows = more; tail = tail })
edit_reads who n feed e rows more tail h le k have =
    let a = behind_rows rows more tail in
    let fields = codes "feed" ∷ decimal feed ∷ edit_fields e in
    let number : feed_of fields ≡ Some feed = number_back feed 255 le (omega arith) in
    ap (λ o. command_with who n o fields a) (feed_short (decimal feed) (edit_fields e))
    ∙ ap (λ o. and_then (on_line n o a) (λ f more. feed_command who f (read_edit n (edit_fields e) more))) number
    ∙ ap (feed_command who feed) (edits_read_back e h (typed_numbers e k) n rows more tail have)

caller_reads : (who n : ℕ) (fields : List (List ℕ)) (a : Ahead) → IsNumeralNumber who → read_command n (decimal who ∷ fields) a ≡ command_of_caller who n fields a
caller_reads who n fields a h = ap (λ o. command_by o n (decimal who ∷ fields) a) (numeral_back who h)

pub command_back : (who n : ℕ) (s : Step) (more : List Row) (tail : Tail) → IsNumeralNumber who → IsShapedStep s → IsStepWithin s → IsTypedStep s → AreRows (step_items s) → (m : ℕ)
    → read_command n (command_row who s) (behind_rows (numbered m (step_items s)) more tail) ≡ Came (who, s) (record { rows = more; tail = tail })
command_back who n (edit feed e) more tail w h i k rows m = caller_reads who n (step_fields (edit feed e)) _ w ∙ edit_reads who n feed e (numbered m (items_of e)) more tail h k.0 k.1 (rows_have e m rows)
command_back who n (Tick at) more tail w h i k rows m = caller_reads who n (step_fields (Tick at)) _ w ∙ short_reads who n (step_fields (Tick at)) (Tick at) _ (tick_short at i)
command_back who n Publish more tail w h i k rows m = caller_reads who n (step_fields Publish) _ w ∙ short_reads who n (step_fields Publish) Publish _ publish_short
command_back who n Swap more tail w h i k rows m = caller_reads who n (step_fields Swap) _ w ∙ short_reads who n (step_fields Swap) Swap _ swap_short

-- ---- the text of a command

-- digits are no `=`
digit_other : (b : ℕ) → is_digit b ≡ true → (b == 61) ≡ false
digit_other b h = grind (arith, nat_tests)

no_outcome : (xs : List ℕ) → list_all is_digit xs ≡ true → is_word (codes "=") xs ≡ false
no_outcome [] h = refl
no_outcome (x ∷ xs) h = rw (digit_other x (and_parts (is_digit x) (list_all is_digit xs) h).0) refl

-- what the first row is read as
pub first_reads : (after : Bool) (n : ℕ) (fields : List (List ℕ)) (rows : List Row) (tail : Tail) → record_of (row_line fields) ≡ Some fields
    → first_script_item after (record { rows = (n, row_line fields) ∷ rows; tail = tail }) ≡ read_item after n fields (record { rows = rows; tail = tail })
first_reads after n fields rows tail e = ap (λ o. item_on after n o (record { rows = rows; tail = tail })) e

pub step_reads : (after : Bool) (who n : ℕ) (s : Step) (a b : Ahead) → IsNumeralNumber who → read_command n (command_row who s) a ≡ Came (who, s) b → read_item after n (command_row who s) a ≡ Came (step who s) b
step_reads after who n s a b w e =
    ap (λ t. if t then kept_item n (on_line n (kept_in after (command_row who s)) a) else step_item (read_command n (command_row who s) a)) (no_outcome (decimal who) (digits_of who (low who w)))
    ∙ ap step_item e

pub command_is_row : (who : ℕ) (s : Step) → IsNumeralNumber who → IsShapedStep s → IsStepWithin s → IsTypedStep s → IsShort (command_row who s) → IsRow (command_row who s)
command_is_row who s w h i k short = record { front = command_front who s (low who w); kept = command_kept who s (low who w) h i k; short = short }

pub items_are_rows : (items : List Item) → AllByRecursion IsShapedItem items → AllByRecursion IsTypedItem items → AllByRecursion (λ (item : Item). IsShort (item_row item)) items → AreRows items
items_are_rows [] h t s = tt
items_are_rows (item ∷ items) h t s = (record { front = (refl, refl); kept = item_row_kept item h.0 t.0; short = s.0 }, items_are_rows items h.1 t.1 s.1)

pub step_rows : (s : Step) → IsShapedStep s → IsTypedStep s → AllByRecursion (λ (item : Item). IsShort (item_row item)) (step_items s) → AreRows (step_items s)
step_rows (edit feed (Day service day items)) h k s = items_are_rows items (recursion_from_All IsShapedItem items h.items) k.1.1 s
step_rows other h k s = tt

pub commands_read_back : CommandsReadBack
commands_read_back who s h after n rest tail =
    let command = command_row who s in
    let items = step_items s in
    let is_row = command_is_row who s h.caller h.shaped h.within h.typed h.short in
    let rows = step_rows s h.shaped h.typed h.items_short in
    let at = n + command_lines s in
    let count : n + 1 + length items ≡ at = omega arith in
    let lines : lines_from n (command_text who s ++ rest) ≡ (n, row_line command) ∷ (numbered (n + 1) items ++ lines_from at rest) =
    ap (lines_from n) (append_assoc (line_text command) (flat_map item_text items) rest)
    ∙ row_first command n (flat_map item_text items ++ rest) is_row
    ∙ ap (λ (l : List Row). (n, row_line command) ∷ l) (items_first items (n + 1) rest rows ∙ ap (λ k. numbered (n + 1) items ++ lines_from k rest) count) in
    ap (λ (l : List Row). first_script_item after (record { rows = l; tail = tail })) lines
    ∙ first_reads after n command (numbered (n + 1) items ++ lines_from at rest) tail (row_fields command is_row)
    ∙ step_reads after who n s (behind_rows (numbered (n + 1) items) (lines_from at rest) tail) (ahead_of at rest tail) h.caller
    (command_back who n s (lines_from at rest) tail h.caller h.shaped h.within h.typed rows (n + 1))
