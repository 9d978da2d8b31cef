-- The lines of pieces, and what is whole of a report that was cut.
use Rattle.std.proofs.Common.{◌≡◌, ◌≢◌, ◌∙◌, zero, suc, length-drop, ◌<◌, ◌++◌, ◌∷◌, [], ℕ, List, Bool, true, false, refl, sym, ap, arith, length, map, take, drop, inl, inr, append_assoc, append-nil}
use Rattle.std.specs.Prelude.{◌==◌, codes, decimal, flat_map}
use Rattle.std.specs.List.{AllByRecursion, cons_option, list_all, list_any}
use Rattle.std.proofs.lemmas.List.{take-append-drop}
use Rattle.std.proofs.lemmas.Bool.{cases_Bool, and_parts}
use Rattle.std.proofs.lemmas.List.Concat.{flat_map-append}
use Rattle.std.proofs.lemmas.List.Folds.{list_all-append, list_any-append}
use Rattle.si_lists.proofs.Lists.{all_append, all_map}
use Rattle.si_causes.specs.Lines.{whole_lines}
use Rattle.guide_model.specs.Decoding.{IsKept}
use Rattle.input_lines.specs.Numbers.{is_digit}
use Rattle.input_lines.proofs.CleanBytes.{clean_inner, inner_parts, is_inner}
use Rattle.csv.specs.Writing.{default_writer, fields_text}
use Rattle.script_lines.proofs.NumberBack.{decimal_some, digits_of, low}
use Rattle.journal_model.specs.declared.edit.Item.{Item}
use Rattle.journal_model.specs.Edits.{IsShapedItem, IsTypedItem}
use Rattle.journal_model.specs.Steps.{IsTypedStep}
use Rattle.journal_model.specs.declared.edit.Edit.TheVariants.{Day}
use Rattle.journal_model.specs.declared.step.Step.{Step}
use Rattle.journal_model.specs.declared.step.Step.TheVariants.{Edit as edit}
use Rattle.script_lines.specs.Script.{IsShapedStep}
use Rattle.std.proofs.lemmas.List.Elements.{recursion_from_All}
use Rattle.journal_model.specs.declared.step.Entry.{Entry}
use Rattle.journal_text.specs.Lines.{item_row, item_text, line_text}
use Rattle.journal_text.specs.Commands.{step_fields, step_items}
use Rattle.journal_text.specs.CommandBack.{command_row, row_line}
use Rattle.journal_text.proofs.CleanRows.{all_clean, row_clean}
use Rattle.journal_text.proofs.CommandFields.{command_kept, item_row_kept}
use Rattle.journal_text.proofs.PlainFields.{number_written, plain_field}
use Rattle.journal_text.specs.Back.{IsOfLines, IsReadable, outcome_row}
use Rattle.journal_text.specs.Entries.{entry_text}
use Rattle.journal_text.proofs.EntryBack.{entry_parts}
use Rattle.journal_text.proofs.EntryRows.{outcome_row_kept, readable_written}
use Rattle.script_notes.specs.declared.why.Why.{Why}
use Rattle.script_notes.specs.declared.why.Why.TheVariants.{NoCommand}
use Rattle.script_notes.specs.Whys.{CanBeSaid, why_text}
use Rattle.script_notes.proofs.WhyFacts.{words_printing}
use Rattle.si_lists.proofs.Filters.{list_all-more}
use Rattle.guide_model.specs.Control.{is_printing}
use Rattle.std.proofs.lemmas.Bool.Decides.{nat_tests}
use Rattle.script_notes.specs.ReportLaws.{IsCutOrEnd, HasNoOutcome, WholeEntriesAreKept}
use Rattle.script_notes.specs.Pieces.{Entered, IsPieceOfLines, IsReadablePiece, Noted, Piece, comment_line, is_entry, entries_in, entry_in, piece_text, pieces_text, up_to_entry}
use Rattle.script_notes.specs.Whole.{begins_outcome, up_to_last, whole_entries, with_end}
use Rattle.script_notes.proofs.ReportLineFacts.{AreLines, IsOneLine, all_up, any_front, cut_none, up_end, up_more, up_none, up_over, whole_front, whole_many}

-- ---- lines

pub one_line : (line : List ℕ) → list_all is_inner line ≡ true → IsOneLine line
one_line [] h = refl
one_line (b ∷ bs) h =
    let (p, q) = and_parts (is_inner b) (list_all is_inner bs) h in
    rw ((inner_parts b p).0) (one_line bs q)

row_one : (fields : List (List ℕ)) → AllByRecursion IsKept fields → IsOneLine (row_line fields)
row_one fields kept = one_line (row_line fields) (clean_inner (row_line fields) (row_clean fields (all_clean fields kept)))

-- the lines of an entry before its last
abbrev pub item_lines : List Item → List (List ℕ)
item_lines items = map (λ (item : Item). row_line (item_row item)) items

abbrev pub front_lines : Entry → List (List ℕ)
front_lines e = row_line (command_row e.who e.step) ∷ item_lines (step_items e.step)

abbrev pub last_line : Entry → List ℕ
last_line e = row_line (outcome_row e.outcome)

abbrev pub piece_lines : Piece → List (List ℕ)
piece_lines (Entered e) = front_lines e ++ last_line e ∷ []
piece_lines (Noted n why) = comment_line n why ∷ []

-- ---- the lines of an entry

items_are : (items : List Item) → AllByRecursion IsShapedItem items → AllByRecursion IsTypedItem items → AreLines (item_lines items)
items_are [] h k = tt
items_are (item ∷ items) h k = (row_one (item_row item) (item_row_kept item h.0 k.0), items_are items h.1 k.1)

step_are : (s : Step) → IsShapedStep s → IsTypedStep s → AreLines (item_lines (step_items s))
step_are (edit feed (Day service day items)) h k = items_are items (recursion_from_All IsShapedItem items h.items) k.1.1
step_are other h k = tt

entry_are : (e : Entry) → IsOfLines e → AreLines (piece_lines (Entered e))
entry_are e h =
    all_append IsOneLine (front_lines e) (last_line e ∷ [])
    (row_one (command_row e.who e.step) (command_kept e.who e.step h.who h.shaped h.within h.typed), step_are e.step h.shaped h.typed)
    (row_one (outcome_row e.outcome) (outcome_row_kept e.outcome h.outcome), tt)

items_text : (items : List Item) (rest : List ℕ) → flat_map item_text items ++ rest ≡ flat_map with_end (item_lines items) ++ rest
items_text [] rest = refl
items_text (item ∷ items) rest =
    append_assoc (item_text item) (flat_map item_text items) rest
    ∙ ap (λ (l : List ℕ). item_text item ++ l) (items_text items rest)
    ∙ sym (append_assoc (item_text item) (flat_map with_end (item_lines items)) rest)

entry_is : (e : Entry) → IsOfLines e → entry_text e ≡ flat_map with_end (piece_lines (Entered e))
entry_is e h =
    let first = line_text (command_row e.who e.step) in
    let items = step_items e.step in
    let last = line_text (outcome_row e.outcome) in
    sym (append-nil (entry_text e))
    ∙ entry_parts e [] h.outcome
    ∙ ap (λ (l : List ℕ). first ++ l) (items_text items (last ++ []) ∙ sym (flat_map-append with_end (item_lines items) (last_line e ∷ [])))

digit_begins : (xs rest : List ℕ) → 0 < length xs → list_all is_digit xs ≡ true → begins_outcome (xs ++ rest) ≡ false
digit_begins [] rest some h = absurd (omega (arith, some))
digit_begins (x ∷ xs) rest some h = elim (cases_Bool (x == 61)) [
  | inr e ↦ e
  | inl e ↦ absurd (let same : x ≡ 61 = grind arith in let digit = rw same at (and_parts (is_digit x) (list_all is_digit xs) h).0 in cc digit)
]

command_begins : (e : Entry) → IsOfLines e → begins_outcome (row_line (command_row e.who e.step)) ≡ false
command_begins e h =
    ap (λ (l : List ℕ). begins_outcome (l ++ fields_text default_writer (step_fields e.step))) (plain_field (decimal e.who) (number_written e.who h.who))
    ∙ digit_begins (decimal e.who) (fields_text default_writer (step_fields e.step)) (decimal_some e.who h.who) (digits_of e.who h.who)

items_begin : (items : List Item) → list_any begins_outcome (item_lines items) ≡ false
items_begin [] = refl
items_begin (item ∷ items) = items_begin items

front_begins : (e : Entry) → IsOfLines e → list_any begins_outcome (front_lines e) ≡ false
front_begins e h = rw (command_begins e h) (items_begin (step_items e.step))

-- ---- the line of a comment

pub printing_inner : (b : ℕ) → is_printing b ≡ true → is_inner b ≡ true
printing_inner b h = grind (arith, nat_tests)

-- a number is digits, as those in the words of a comment are
number_inner : (n : ℕ) → list_all is_inner (decimal n) ≡ true
number_inner n =
    let front = codes "field " ++ decimal n in
    let words : list_all is_printing (front ++ codes " is no command") ≡ true = words_printing (NoCommand n) tt in
    let first = (and_parts (list_all is_printing front) (list_all is_printing (codes " is no command")) (sym (list_all-append is_printing front (codes " is no command")) ∙ words)).0 in
    let digits = (and_parts (list_all is_printing (codes "field ")) (list_all is_printing (decimal n)) (sym (list_all-append is_printing (codes "field ") (decimal n)) ∙ first)).1 in
    list_all-more is_printing is_inner printing_inner (decimal n) digits

pub comment_inner : (n : ℕ) (why : Why) → CanBeSaid why → list_all is_inner (comment_line n why) ≡ true
comment_inner n why h =
    list_all-append is_inner (decimal n) (codes ": " ++ why_text why)
    ∙ rw (number_inner n, list_all-more is_printing is_inner printing_inner (why_text why) (words_printing why h)) refl

pub comment_one : (n : ℕ) (why : Why) → CanBeSaid why → IsOneLine (comment_line n why)
comment_one n why h = one_line (comment_line n why) (comment_inner n why h)

-- ---- pieces

piece_are : (p : Piece) → IsPieceOfLines p → AreLines (piece_lines p)
piece_are (Entered e) h = entry_are e h
piece_are (Noted n why) h = (comment_one n why h, tt)

piece_is : (p : Piece) → IsPieceOfLines p → piece_text p ≡ flat_map with_end (piece_lines p)
piece_is (Entered e) h = entry_is e h
piece_is (Noted n why) h = sym (append-nil (with_end (comment_line n why)))

-- a piece has the line of an outcome exactly where it is an entry
piece_any : (p : Piece) → IsPieceOfLines p → list_any begins_outcome (piece_lines p) ≡ is_entry p
piece_any (Entered e) h = list_any-append begins_outcome (front_lines e) (last_line e ∷ []) ∙ rw (front_begins e h) refl
piece_any (Noted n why) h = refl

-- and an entry ends with it
piece_up : (p : Piece) → IsPieceOfLines p → is_entry p ≡ true → up_to_last begins_outcome (piece_lines p) ≡ piece_lines p
piece_up (Entered e) h is = up_end begins_outcome (front_lines e) (last_line e) refl
piece_up (Noted n why) h is = cc is

abbrev pub lines_of : List Piece → List (List ℕ)
lines_of pieces = flat_map piece_lines pieces

pub pieces_are : (pieces : List Piece) → AllByRecursion IsPieceOfLines pieces → AreLines (lines_of pieces)
pieces_are [] h = tt
pieces_are (p ∷ ps) h = all_append IsOneLine (piece_lines p) (lines_of ps) (piece_are p h.0) (pieces_are ps h.1)

pub pieces_is : (pieces : List Piece) → AllByRecursion IsPieceOfLines pieces → pieces_text pieces ≡ flat_map with_end (lines_of pieces)
pieces_is [] h = refl
pieces_is (p ∷ ps) h =
    ap (λ (l : List ℕ). piece_text p ++ l) (pieces_is ps h.1)
    ∙ ap (λ (l : List ℕ). l ++ flat_map with_end (lines_of ps)) (piece_is p h.0)
    ∙ sym (flat_map-append with_end (piece_lines p) (lines_of ps))

pieces_any : (pieces : List Piece) → AllByRecursion IsPieceOfLines pieces → list_any begins_outcome (lines_of pieces) ≡ list_any is_entry pieces
pieces_any [] h = refl
pieces_any (p ∷ ps) h = list_any-append begins_outcome (piece_lines p) (lines_of ps) ∙ rw (piece_any p h.0, pieces_any ps h.1) refl

-- up to the last outcome stand the pieces up to the last entry
pieces_up : (pieces : List Piece) → AllByRecursion IsPieceOfLines pieces → up_to_last begins_outcome (lines_of pieces) ≡ lines_of (up_to_entry pieces)
pieces_up [] h = refl
pieces_up (p ∷ ps) h = elim (cases_Bool (list_any is_entry ps)) [
  | inl some ↦
      up_over begins_outcome (piece_lines p) (lines_of ps) (pieces_any ps h.1 ∙ some)
      ∙ ap (λ (l : List (List ℕ)). piece_lines p ++ l) (pieces_up ps h.1)
      ∙ ap lines_of (sym (up_over is_entry (p ∷ []) ps some))
  | inr none ↦
      up_more begins_outcome (piece_lines p) (lines_of ps) (pieces_any ps h.1 ∙ none)
      ∙ one (is_entry p) refl
      ∙ ap lines_of (sym (up_more is_entry (p ∷ []) ps none))
]
  where
    one : (b : Bool) → is_entry p ≡ b → up_to_last begins_outcome (piece_lines p) ≡ lines_of (up_to_entry (p ∷ []))
    one true e = piece_up p h.0 e ∙ sym (append-nil (piece_lines p)) ∙ ap lines_of (sym (up_end is_entry [] p e))
    one false e = up_none begins_outcome (piece_lines p) (piece_any p h.0 ∙ e) ∙ ap lines_of (sym (up_none is_entry (p ∷ []) (rw e refl)))

-- Pieces, and behind them a text in which no whole line is that of an outcome.
pub kept_before : (pieces : List Piece) (rest : List ℕ) → AllByRecursion IsPieceOfLines pieces → list_any begins_outcome (whole_lines rest) ≡ false
    → whole_entries (pieces_text pieces ++ rest) ≡ pieces_text (up_to_entry pieces)
kept_before pieces rest h none =
    let lines : whole_lines (pieces_text pieces ++ rest) ≡ lines_of pieces ++ whole_lines rest =
    ap (λ (l : List ℕ). whole_lines (l ++ rest)) (pieces_is pieces h) ∙ whole_many (lines_of pieces) rest (pieces_are pieces h) in
    ap (λ (l : List (List ℕ)). flat_map with_end (up_to_last begins_outcome l)) lines
    ∙ ap (flat_map with_end) (up_more begins_outcome (lines_of pieces) (whole_lines rest) none ∙ pieces_up pieces h)
    ∙ sym (pieces_is (up_to_entry pieces) (all_up IsPieceOfLines is_entry pieces h))

-- ---- a piece that was cut

cut_rest : (n : ℕ) (xs : List ℕ) → n < length xs → drop n xs ≢ []
cut_rest n [] h = absurd (omega (arith, h))
cut_rest n xs h = λ e. rest_some n xs h e
  where
    rest_some : (n : ℕ) (xs : List ℕ) → n < length xs → drop n xs ≡ [] → ⊥
    rest_some n xs h e = omega (arith, h, ap length e, length-drop n xs)

-- the lines of a proper front of a piece
cut_any : (p : Piece) (text : List ℕ) (cut : ℕ) → IsPieceOfLines p → text ≡ flat_map with_end (piece_lines p) → (0 < cut → cut < length text)
    → list_any begins_outcome (whole_lines (take cut text)) ≡ false
cut_any p text zero h is short = refl
cut_any (Entered e) text (suc n) h is short =
    cut_none (front_lines e) (last_line e) (take (suc n) text) (drop (suc n) text) (entry_are e h) (front_begins e h)
    (sym is ∙ sym (take-append-drop (suc n) text)) (cut_rest (suc n) text (short (omega arith)))
cut_any (Noted n why) text (suc m) h is short =
    let (more, lines) = whole_front (take (suc m) text) (drop (suc m) text) in
    let all : whole_lines text ≡ comment_line n why ∷ [] =
    ap whole_lines (is ∙ sym (append-nil (flat_map with_end (piece_lines (Noted n why))))) ∙ whole_many (piece_lines (Noted n why)) [] (comment_one n why h, tt) in
    let parts : whole_lines (take (suc m) text) ++ more ≡ comment_line n why ∷ [] =
    sym lines ∙ ap whole_lines (take-append-drop (suc m) text) ∙ all in
    any_front begins_outcome (whole_lines (take (suc m) text)) more (ap (list_any begins_outcome) parts)

next_any : (next : List Piece) (cut : ℕ) → AllByRecursion IsPieceOfLines next → (0 < cut → cut < length (pieces_text (take 1 next)))
    → list_any begins_outcome (whole_lines (take cut (pieces_text (take 1 next)))) ≡ false
next_any [] zero h short = refl
next_any [] (suc n) h short = absurd (let k = short (omega arith) in omega (arith, k))
next_any (p ∷ ps) cut h short = cut_any p (pieces_text (p ∷ [])) cut h.0 (append-nil (piece_text p) ∙ piece_is p h.0) short

part_none : (next : List Piece) (part : List ℕ) → AllByRecursion IsPieceOfLines next → IsCutOrEnd next part → HasNoOutcome part
part_none next part h (inl cut) = ap (λ (l : List ℕ). list_any begins_outcome (whole_lines l)) cut.part_is ∙ next_any next cut.cut h cut.short
part_none next part h (inr none) = none

pub entries_are_kept : WholeEntriesAreKept
entries_are_kept pieces next part h k rest = kept_before pieces part h (part_none next part k rest)

-- ---- entries

-- no entry stands behind the last
pub same_entries : (pieces : List Piece) → entries_in (up_to_entry pieces) ≡ entries_in pieces
same_entries [] = refl
same_entries (p ∷ ps) = elim (cases_Bool (list_any is_entry (p ∷ ps))) [
  | inl e ↦ rw e (ap (cons_option (entry_in p)) (same_entries ps))
  | inr e ↦ rw e (sym (no_entries (p ∷ ps) e))
]
  where
    no_entries : (pieces : List Piece) → list_any is_entry pieces ≡ false → entries_in pieces ≡ []
    no_entries [] h = refl
    no_entries (Entered e ∷ ps) h = cc h
    no_entries (Noted n why ∷ ps) h = no_entries ps h

-- ---- entries that can be read again

entry_of_lines : (e : Entry) → IsReadable e → IsOfLines e
entry_of_lines e h = record {
  who = low e.who h.who;
  shaped = h.shaped;
  within = h.within;
  typed = h.typed;
  outcome = readable_written e.outcome h.outcome;
}

piece_of_lines : (p : Piece) → IsReadablePiece p → IsPieceOfLines p
piece_of_lines (Entered e) h = entry_of_lines e h
piece_of_lines (Noted n why) h = h

-- what can be read again was read from lines
pub readable_of_lines : (pieces : List Piece) → AllByRecursion IsReadablePiece pieces → AllByRecursion IsPieceOfLines pieces
readable_of_lines pieces h = all_map IsReadablePiece IsPieceOfLines piece_of_lines pieces h
