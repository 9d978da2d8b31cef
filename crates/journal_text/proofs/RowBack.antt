-- Rows read back from their lines.
use Rattle.std.proofs.Common.{◌≡◌, ◌==◌, ◌∙◌, ◌++◌, ◌∷◌, [], ℕ, List, Option, Some, refl, ap, false, inl, inr, arith, map, append_assoc}
use Rattle.std.specs.List.{list_any}
use Rattle.std.proofs.lemmas.Bool.{cases_Bool}
use Rattle.csv.specs.Machine.{next_record}
use Rattle.csv.specs.Reading.{default_config, strip_bom, is_bom}
use Rattle.csv.specs.Writing.{default_writer, field_text, fields_text, needs_byte}
use Rattle.csv.specs.declared.parser.State.TheVariants as st
use Rattle.si_causes.specs.Lines.{shown}
use Rattle.input_lines.specs.Fields.{IsLine, line_fields, fields_or_none}
use Rattle.input_lines.specs.Lines.{is_passed}
use Rattle.input_lines.proofs.CleanBytes.{clean_inner}
use Rattle.input_lines.proofs.CleanLines.{kept_from, line_record_of}
use Rattle.journal_text.specs.CommandBack.{row_line, IsFront, IsFronted, shown_lines, RowsReadBack}
use Rattle.journal_text.proofs.LineBack.{line-back}
use Rattle.journal_text.proofs.CleanRows.{all_clean, row_clean, line_first, line_shown}

-- what a field that may begin a line is written as may begin it too
front_field : (field rest : List ℕ) → IsFront field → IsFront (field_text default_writer field ++ rest)
front_field [] rest h = absurd h
front_field (b ∷ bs) rest h = elim (cases_Bool (list_any (needs_byte default_writer) (b ∷ bs))) [
  | inl e ↦ rw e (refl, refl)
  | inr e ↦ rw e h
]

front_row : (fields : List (List ℕ)) → IsFronted fields → IsFront (row_line fields)
front_row [] h = absurd h
front_row (field ∷ []) h = absurd h
front_row (field ∷ other ∷ fields) h = front_field field (fields_text default_writer (other ∷ fields)) h

no_mark : (a b c : ℕ) → (a == 0xEF) ≡ false → is_bom a b c ≡ false
no_mark a b c e = rw e refl

front_strips : (line : List ℕ) → IsFront line → strip_bom line ≡ line
unfolding strip_bom
front_strips (a ∷ b ∷ c ∷ rest) h = rw (no_mark a b c h.1) refl
front_strips other h = refl

front_passed : (line : List ℕ) → IsFront line → is_passed line ≡ false
front_passed [] h = absurd h
front_passed (b ∷ bs) h = h.0

back : (fields : List (List ℕ)) → IsFronted fields → next_record default_config st.StartRecord [] [] (row_line fields) ≡ Some (fields, st.StartRecord, [])
back [] h = absurd h
back (field ∷ []) h = absurd h
back (field ∷ other ∷ fields) h = line-back field other fields

pub fields_back : (fields : List (List ℕ)) → IsFronted fields → line_fields (row_line fields) ≡ fields
fields_back fields h =
    ap (λ (l : List ℕ). fields_or_none (next_record default_config st.StartRecord [] [] l)) (front_strips (row_line fields) (front_row fields h))
    ∙ ap fields_or_none (back fields h)

pub rows_read_back : RowsReadBack
rows_read_back fields row rest =
    let clean = row_clean fields (all_clean fields row.kept) in
    let inner = clean_inner (row_line fields) clean in
    let is_line : IsLine (row_line fields) = record { short = row.short; kept = kept_from (row_line fields) clean } in
    record {
      line =
          ap shown_lines (append_assoc (row_line fields) (10 ∷ []) rest)
          ∙ ap (map shown) (line_first (row_line fields) rest inner)
          ∙ ap (λ (l : List ℕ). l ∷ shown_lines rest) (line_shown (row_line fields) inner (let k = row.short in omega arith));
      passed = front_passed (row_line fields) (front_row fields row.front);
      fields_are = line_record_of (row_line fields) is_line ∙ ap (λ (l : List (List ℕ)). let o : Option (List (List ℕ)) = Some l in o) (fields_back fields row.front);
    }
