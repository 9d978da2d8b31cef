-- Journals whose edits were read from lines are equal where their texts are: the text gives the rows, and these the entries.
use Rattle.std.proofs.Common.{◌≡◌, ◌∙◌, ◌<◌, ◌++◌, ◌∷◌, [], ℕ, true, false, List, Option, Some, None, length, map, refl, sym, ap, subst, arith, append-nil, append_assoc}
use Rattle.std.proofs.lemmas.List.{length-map}
use Rattle.std.specs.Prelude.{decimal, drop, flat_map, option_map}
use Rattle.std.proofs.Math.Seq.{drop-append_seam}
use Rattle.std.specs.List.{AllByRecursion, list_all}
use Rattle.std.proofs.lemmas.List.Elements.{recursion_from_All}
use Rattle.si_lists.proofs.Lists.{same_parts}
use Rattle.si_lists.proofs.Outcomes.{some_same}
use Rattle.si_lists.proofs.Truths.{first_true}
use Rattle.csv.specs.Writing.{default_writer, fields_text}
use Rattle.si_causes.specs.Lines.{raw_lines}
use Rattle.guide_model.specs.Decoding.{IsKept}
use Rattle.input_lines.specs.Fields.{line_fields}
use Rattle.input_lines.specs.Numbers.{is_digit, value_from}
use Rattle.journal_model.specs.declared.edit.Item.{Item}
use Rattle.journal_model.specs.declared.edit.Edit.{Edit}
use Rattle.journal_model.specs.declared.edit.Edit.TheVariants.{Day}
use Rattle.script_lines.specs.Items.{all_some, item_line}
use Rattle.script_lines.specs.Heads.{edit_head}
use Rattle.journal_model.specs.Edits.{IsShapedItem, IsTypedItem}
use Rattle.script_lines.specs.EditFields.{edit_fields}
use Rattle.script_lines.proofs.EditBack.{head_from, head_back, item_line_back, rows_behind, with_rows}
use Rattle.script_lines.proofs.EditFacts.{no_fields}
use Rattle.script_lines.proofs.NumberBack.{number_back, value_back, digits_of, decimal_some}
use Rattle.script_lines.proofs.OutcomeBack.{outcome_back}
use Rattle.script_lines.proofs.EditTypes.{typed_numbers}
use Rattle.journal_model.specs.declared.step.Step.{Step}
use Rattle.journal_model.specs.declared.step.Step.TheVariants.{Edit as edit, Tick, Publish, Swap}
use Rattle.journal_model.specs.declared.step.Outcome.{Outcome}
use Rattle.journal_model.specs.declared.step.Entry.{Entry}
use Rattle.journal_model.specs.Steps.{IsStepWithin, IsTypedStep}
use Rattle.journal_text.specs.Lines.{line_text, item_text, item_row, items_of}
use Rattle.journal_text.specs.Commands.{step_fields, step_items}
use Rattle.journal_text.specs.Entries.{entry_text, journal_text}
use Rattle.script_lines.specs.Outcomes.{Numeral, outcome_by, outcome_fields}
use Rattle.script_lines.specs.Script.{short_step, feed_of, IsShapedStep}
use Rattle.journal_text.specs.CommandBack.{IsFronted, command_row, row_line}
use Rattle.journal_text.specs.Back.{IsWritableOutcome, IsOfLines, outcome_row, BeginsNoEntry, JournalsDiffer, JournalsEnd}
use Rattle.input_lines.proofs.CleanBytes.{clean_inner}
use Rattle.journal_text.proofs.CleanRows.{row_clean, all_clean, line_first}
use Rattle.journal_text.proofs.RowBack.{fields_back}
use Rattle.journal_text.proofs.EntryRows.{IsWide, outcome_front, outcome_row_kept}
use Rattle.journal_text.proofs.PlainFields.{plain_field, number_written}
use Rattle.journal_text.proofs.CommandFields.{item_row_kept, command_kept, command_front}
use Rattle.journal_text.proofs.CommandBack.{feed_short, tick_short, publish_short, swap_short}
use Rattle.journal_text.proofs.EntryBack.{entry_parts}

-- ---- the rows of a text

abbrev pub Row : Type 0
Row = List (List ℕ)

-- the fields of each line
abbrev pub rows_in : List ℕ → List Row
rows_in text = map line_fields (raw_lines text)

row_in : (fields : Row) (rest : List ℕ) → IsFronted fields → AllByRecursion IsKept fields → rows_in (line_text fields ++ rest) ≡ fields ∷ rows_in rest
row_in fields rest front kept =
    let inner = clean_inner (row_line fields) (row_clean fields (all_clean fields kept)) in
    ap rows_in (append_assoc (row_line fields) (10 ∷ []) rest)
    ∙ ap (map line_fields) (line_first (row_line fields) rest inner)
    ∙ ap (λ (l : Row). l ∷ rows_in rest) (fields_back fields front)

-- items that can stand on lines
abbrev pub AreItems : List Item → Type 0
AreItems items = AllByRecursion (λ (item : Item). IsShapedItem item × IsTypedItem item) items

items_in : (items : List Item) (rest : List ℕ) → AreItems items → rows_in (flat_map item_text items ++ rest) ≡ map item_row items ++ rows_in rest
items_in [] rest h = refl
items_in (item ∷ items) rest h =
    ap rows_in (append_assoc (item_text item) (flat_map item_text items) rest)
    ∙ row_in (item_row item) (flat_map item_text items ++ rest) (refl, refl) (item_row_kept item h.0.0 h.0.1)
    ∙ ap (λ (l : List Row). item_row item ∷ l) (items_in items rest h.1)

items_fit : (items : List Item) → AllByRecursion IsShapedItem items → AllByRecursion IsTypedItem items → AreItems items
items_fit [] h t = tt
items_fit (item ∷ items) h t = ((h.0, t.0), items_fit items h.1 t.1)

step_fit : (s : Step) → IsShapedStep s → IsTypedStep s → AreItems (step_items s)
step_fit (edit feed (Day service day items)) h k = items_fit items (recursion_from_All IsShapedItem items h.items) k.1.1
step_fit other h k = tt

-- the rows of an entry, and then others
abbrev pub rows_of : Entry → List Row → List Row
rows_of entry rest = command_row entry.who entry.step ∷ (map item_row (step_items entry.step) ++ outcome_row entry.outcome ∷ rest)

entry_in : (entry : Entry) (rest : List ℕ) → IsOfLines entry → rows_in (entry_text entry ++ rest) ≡ rows_of entry (rows_in rest)
entry_in entry rest h =
    let items = step_items entry.step in
    let command = command_row entry.who entry.step in
    let last = line_text (outcome_row entry.outcome) ++ rest in
    ap rows_in (entry_parts entry rest h.outcome)
    ∙ row_in command (flat_map item_text items ++ last) (command_front entry.who entry.step h.who) (command_kept entry.who entry.step h.who h.shaped h.within h.typed)
    ∙ ap (λ (l : List Row). command ∷ l) (items_in items last (step_fit entry.step h.shaped h.typed)
    ∙ ap (λ (l : List Row). map item_row items ++ l) (row_in (outcome_row entry.outcome) rest (outcome_front entry.outcome) (outcome_row_kept entry.outcome h.outcome)))

-- ---- the step of rows

items_from : (items : List Item) → AreItems items → all_some (map item_line (map item_row items)) ≡ Some items
items_from [] h = refl
items_from (item ∷ items) h =
    rw (item_line_back item h.0.0 h.0.1.numbers, items_from items h.1) refl

edit_back : (e : Edit) → AreItems (items_of e) → with_rows (Some (head_from e)) (map item_row (items_of e)) ≡ Some e
edit_back (Day service day items) t = ap (option_map (Day service day)) (items_from items t)
edit_back other t = refl

count_of : (e : Edit) → rows_behind (Some (head_from e)) ≡ length (items_of e)
count_of (Day service day items) = refl
count_of other = refl

abbrev pub step_with : Option Step → Option ℕ → Option Edit → Option Step
step_with (Some s) feed e = Some s
step_with None (Some feed) (Some e) = Some (edit feed e)
step_with None feed e = None

-- the step of these fields and of these item rows
abbrev pub step_from : Row → List Row → Option Step
step_from fields rows = step_with (short_step fields) (feed_of fields) (with_rows (edit_head (drop 2 fields)) rows)

head_of_edit : (feed : ℕ) (e : Edit) → IsShapedStep (edit feed e) → IsTypedStep (edit feed e) → edit_head (edit_fields e) ≡ Some (head_from e)
head_of_edit feed e h k = head_back e h (typed_numbers e k.1)

step_back : (s : Step) → IsShapedStep s → IsStepWithin s → IsTypedStep s → step_from (step_fields s) (map item_row (step_items s)) ≡ Some s
step_back (edit feed e) h w k =
    let fields = step_fields (edit feed e) in
    let found : with_rows (edit_head (edit_fields e)) (map item_row (items_of e)) ≡ Some e =
    ap (λ o. with_rows o (map item_row (items_of e))) (head_of_edit feed e h k) ∙ edit_back e (step_fit (edit feed e) h k) in
    ap (λ o. step_with o (feed_of fields) (with_rows (edit_head (edit_fields e)) (map item_row (items_of e)))) (feed_short (decimal feed) (edit_fields e))
    ∙ ap (λ o. step_with None o (with_rows (edit_head (edit_fields e)) (map item_row (items_of e)))) (number_back feed 255 k.0 (omega arith))
    ∙ ap (step_with None (Some feed)) found
step_back (Tick at) h w k = ap (λ o. step_with o (feed_of (step_fields (Tick at))) (with_rows (edit_head (drop 2 (step_fields (Tick at)))) [])) (tick_short at w)
step_back Publish h w k = ap (λ o. step_with o (feed_of (step_fields Publish)) (with_rows (edit_head (drop 2 (step_fields Publish))) [])) publish_short
step_back Swap h w k = ap (λ o. step_with o (feed_of (step_fields Swap)) (with_rows (edit_head (drop 2 (step_fields Swap))) [])) swap_short

count_back : (s : Step) → IsShapedStep s → IsTypedStep s → rows_behind (edit_head (drop 2 (step_fields s))) ≡ length (step_items s)
count_back (edit feed e) h k = ap rows_behind (head_of_edit feed e h k) ∙ count_of e
count_back (Tick at) h k = ap rows_behind no_fields
count_back Publish h k = ap rows_behind no_fields
count_back Swap h k = ap rows_behind no_fields

-- ---- the outcome of a row, whatever its numbers

abbrev any_number : Numeral
any_number field = Some (value_from 0 field)

wide_back : (n : ℕ) → IsWide n → any_number (decimal n) ≡ Some n
wide_back n h = ap (λ (k : ℕ). let o : Option ℕ = Some k in o) (value_back n h)

outcome_again : (o : Outcome) → IsWritableOutcome o → outcome_by any_number any_number (outcome_fields o) ≡ Some o
outcome_again o h = outcome_back any_number any_number IsWide IsWide wide_back wide_back o h.ids h.numbers h.window

-- ---- equal rows are of equal entries

abbrev is_entry : ℕ → Step → Outcome → Entry
is_entry who s o = record { who = who; step = s; outcome = o }

same_entry : (a b : Entry) → a.who ≡ b.who → a.step ≡ b.step → a.outcome ≡ b.outcome → a ≡ b
same_entry a b w s o = ap (λ x. is_entry x a.step a.outcome) w ∙ ap (λ x. is_entry b.who x a.outcome) s ∙ ap (λ x. is_entry b.who b.step x) o

rows_same : (x y : Entry) (us vs : List Row) → IsOfLines x → IsOfLines y → rows_of x us ≡ rows_of y vs → (x ≡ y) × (us ≡ vs)
rows_same x y us vs h k e =
    let command : command_row x.who x.step ≡ command_row y.who y.step = cc e in
    let behind : map item_row (step_items x.step) ++ outcome_row x.outcome ∷ us ≡ map item_row (step_items y.step) ++ outcome_row y.outcome ∷ vs = cc e in
    let whos : decimal x.who ≡ decimal y.who = cc command in
    let fields : step_fields x.step ≡ step_fields y.step = cc command in
    let who : x.who ≡ y.who = sym (value_back x.who h.who) ∙ ap (value_from 0) whos ∙ value_back y.who k.who in
    let count : length (map item_row (step_items x.step)) ≡ length (map item_row (step_items y.step)) =
    length-map (step_items x.step) item_row ∙ sym (count_back x.step h.shaped h.typed) ∙ ap (λ (l : Row). rows_behind (edit_head (drop 2 l))) fields ∙ count_back y.step k.shaped k.typed ∙ sym (length-map (step_items y.step) item_row) in
    let parts = same_parts (map item_row (step_items x.step)) (map item_row (step_items y.step)) (outcome_row x.outcome ∷ us) (outcome_row y.outcome ∷ vs) count behind in
    let last : outcome_row x.outcome ∷ us ≡ outcome_row y.outcome ∷ vs = parts.1 in
    let outcomes : outcome_fields x.outcome ≡ outcome_fields y.outcome = cc last in
    let rest : us ≡ vs = cc last in
    let step : x.step ≡ y.step =
    some_same (sym (step_back x.step h.shaped h.within h.typed) ∙ ap (λ (l : Row). step_from l (map item_row (step_items x.step))) fields ∙ ap (step_from (step_fields y.step)) parts.0 ∙ step_back y.step k.shaped k.within k.typed) in
    let outcome : x.outcome ≡ y.outcome = some_same (sym (outcome_again x.outcome h.outcome) ∙ ap (outcome_by any_number any_number) outcomes ∙ outcome_again y.outcome k.outcome) in
    (same_entry x y who step outcome, rest)

-- ---- what stands behind a journal

no_digit : (xs rest : List ℕ) → 0 < length xs → list_all is_digit xs ≡ true → BeginsNoEntry (xs ++ rest) → ⊥
no_digit [] rest some h none = omega (arith, some)
no_digit (x ∷ xs) rest some h none =
    let digit : is_digit x ≡ true = first_true (is_digit x) (list_all is_digit xs) h in
    let never : true ≡ false = sym digit ∙ none in
    cc

-- an entry begins with its caller's number
entry_digits : (y : Entry) (rest : List ℕ) → IsOfLines y → (behind : List ℕ) × (entry_text y ++ rest ≡ decimal y.who ++ behind)
entry_digits y rest h =
    let more = flat_map item_text (step_items y.step) ++ (line_text (outcome_row y.outcome) ++ rest) in
    let fields = fields_text default_writer (step_fields y.step) in (
      fields ++ ((10 ∷ []) ++ more),
      entry_parts y rest h.outcome
          ∙ ap (λ (l : List ℕ). ((l ++ fields) ++ 10 ∷ []) ++ more) (plain_field (decimal y.who) (number_written y.who h.who))
          ∙ append_assoc (decimal y.who ++ fields) (10 ∷ []) more
          ∙ append_assoc (decimal y.who) fields ((10 ∷ []) ++ more),
    )

no_entry : (y : Entry) (rest : List ℕ) → IsOfLines y → BeginsNoEntry (entry_text y ++ rest) → ⊥
no_entry y rest h none =
    let is = entry_digits y rest h in
    no_digit (decimal y.who) is.0 (decimal_some y.who h.who) (digits_of y.who h.who) (subst BeginsNoEntry is.1 none)

behind_same : (xs us vs : List ℕ) → xs ++ us ≡ xs ++ vs → us ≡ vs
behind_same xs us vs e = sym (drop-append_seam xs us) ∙ ap (drop (length xs)) e ∙ drop-append_seam xs vs

pub journals_end : JournalsEnd
journals_end [] [] u v h k none other e = (refl, e)
journals_end [] (y ∷ ys) u v h k none other e =
    absurd (no_entry y (journal_text ys ++ v) k.0 (subst BeginsNoEntry (e ∙ append_assoc (entry_text y) (journal_text ys) v) none))
journals_end (x ∷ xs) [] u v h k none other e =
    absurd (no_entry x (journal_text xs ++ u) h.0 (subst BeginsNoEntry (sym e ∙ append_assoc (entry_text x) (journal_text xs) u) other))
journals_end (x ∷ xs) (y ∷ ys) u v h k none other e =
    let us = journal_text xs ++ u in
    let vs = journal_text ys ++ v in
    let texts : entry_text x ++ us ≡ entry_text y ++ vs = sym (append_assoc (entry_text x) (journal_text xs) u) ∙ e ∙ append_assoc (entry_text y) (journal_text ys) v in
    let first : x ≡ y = (rows_same x y (rows_in us) (rows_in vs) h.0 k.0 (sym (entry_in x us h.0) ∙ ap rows_in texts ∙ entry_in y vs k.0)).0 in
    let rest : us ≡ vs = behind_same (entry_text y) us vs (sym (ap (λ (z : Entry). entry_text z ++ us) first) ∙ texts) in
    let others = journals_end xs ys u v h.1 k.1 none other rest in
    (ap (λ (l : Entry). l ∷ xs) first ∙ ap (λ (l : List Entry). y ∷ l) others.0, others.1)

pub journals_differ : JournalsDiffer
journals_differ a b h k e = (journals_end a b [] [] h k tt tt (append-nil (journal_text a) ∙ e ∙ sym (append-nil (journal_text b)))).0
