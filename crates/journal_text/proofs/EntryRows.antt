-- The line of an outcome is a row.
use Rattle.std.proofs.Common.{◌≡◌, ◌≢◌, ◌∙◌, ◌<◌, ◌≤◌, ◌^◌, ◌++◌, ◌∷◌, [], ℕ, List, refl, sym, ap, true, arith, append-nil}
use Rattle.std.specs.Prelude.{codes}
use Rattle.std.specs.List.{list_all, AllByRecursion}
use Rattle.std.proofs.lemmas.Bool.{and_parts}
use Rattle.csv.specs.Writing.{default_writer, field_text, fields_text}
use Rattle.guide_model.specs.Decoding.{IsKept}
use Rattle.input_lines.specs.Numbers.{numeral_of}
use Rattle.journal_model.specs.declared.reply.Field.{Field}
use Rattle.journal_model.specs.declared.reply.Field.TheVariants.{Count, Segment}
use Rattle.journal_model.specs.declared.reply.DayFault.{DayFault}
use Rattle.journal_model.specs.declared.reply.DayFault.TheVariants.{Range as BadField, Overlap as Overlaps}
use Rattle.journal_model.specs.declared.reply.Reply.TheVariants.{Done, Foreign, Range, Overlap, Member}
use Rattle.journal_model.specs.declared.step.Outcome.{Outcome}
use Rattle.journal_model.specs.declared.step.Outcome.TheVariants.{Edited, Ticked, Late, Published, Swapped}
use Rattle.journal_text.specs.Lines.{line_text}
use Rattle.script_lines.specs.Outcomes.{field_fields, field_numbers, fault_ids, fault_numbers, day_fault_fields, id_in, outcome_fields, outcome_ids, outcome_numbers, outcome_of_fields}
use Rattle.journal_text.specs.Entries.{outcome_text, with_commas}
use Rattle.journal_text.specs.CommandBack.{IsFronted, row_line}
use Rattle.journal_text.specs.Back.{IsReadableOutcome, IsWritableOutcome, OutcomesReadBack, outcome_row}
use Rattle.script_lines.proofs.NumberBack.{low, small, number_back, numeral_back}
use Rattle.script_lines.proofs.OutcomeBack.{outcome_back}
use Rattle.si_lists.proofs.Lists.{all_map}
use Rattle.journal_text.proofs.PlainFields.{all_written, is_written, moment_written, number_written, plain_field, written_kept}

-- ---- the line of an outcome

plain_fields : (f : List ℕ) (fs : List (List ℕ)) → all_written (f ∷ fs) ≡ true → fields_text default_writer (f ∷ fs) ≡ 44 ∷ with_commas (f ∷ fs)
unfolding fields_text
plain_fields f [] h =
    let (p, q) = and_parts (list_all is_written f) true h in
    ap (λ (l : List ℕ). 44 ∷ l) (append-nil (field_text default_writer f) ∙ plain_field f p)
plain_fields f (g ∷ fs) h =
    let (p, q) = and_parts (list_all is_written f) (all_written (g ∷ fs)) h in
    ap (λ (l : List ℕ). 44 ∷ (l ++ fields_text default_writer (g ∷ fs))) (plain_field f p) ∙ ap (λ (l : List ℕ). 44 ∷ (f ++ l)) (plain_fields g fs q)

-- a number of 64 bits
abbrev pub IsWide : ℕ → Type 0
IsWide n = n < 2 ^ 64

field_written : (f : Field) → AllByRecursion IsWide (field_numbers f) → all_written (field_fields f) ≡ true
field_written (Count n) h = rw (number_written n h.0) refl
field_written (Segment n) h = rw (number_written n h.0) refl
field_written other h = refl

fault_written : (fault : DayFault) → AllByRecursion IsWide (fault_ids fault) → AllByRecursion IsWide (fault_numbers fault) → all_written (day_fault_fields fault) ≡ true
fault_written (BadField f) i h = field_written f h
fault_written (Overlaps e) i h = rw (number_written e i.0) refl

pub outcome_written : (o : Outcome) → IsWritableOutcome o → all_written (outcome_fields o) ≡ true
outcome_written (Edited Done) h = refl
outcome_written (Edited (Foreign s)) h = rw (number_written s h.ids.0) refl
outcome_written (Edited (Range f)) h = field_written f h.numbers
outcome_written (Edited (Overlap e)) h = rw (number_written e h.ids.0) refl
outcome_written (Edited (Member i fault)) h = rw (number_written i h.ids.0) (fault_written fault h.ids.1 h.numbers)
outcome_written Ticked h = refl
outcome_written (Late at) h = rw (moment_written at.0 h.window) refl
outcome_written (Published n) h = rw (number_written n h.numbers.0) refl
outcome_written (Swapped n at) h = rw (number_written n h.numbers.0, moment_written at.0 h.window) refl

some_written : (fs : List (List ℕ)) → fs ≢ [] → all_written fs ≡ true → fields_text default_writer fs ≡ 44 ∷ with_commas fs
some_written [] n h = absurd (n refl)
some_written (f ∷ fs) n h = plain_fields f fs h

pub outcome_some : (o : Outcome) → outcome_fields o ≢ []
outcome_some (Edited Done) = λ e. cc
outcome_some (Edited (Foreign s)) = λ e. cc
outcome_some (Edited (Range f)) = λ e. cc
outcome_some (Edited (Overlap x)) = λ e. cc
outcome_some (Edited (Member i fault)) = λ e. cc
outcome_some other = λ e. cc

-- the line of an outcome is the text of the row
pub outcome_line : (o : Outcome) → IsWritableOutcome o → codes "=," ++ outcome_text o ++ codes "\n" ≡ line_text (outcome_row o)
outcome_line o h =
    let body : row_line (outcome_row o) ≡ codes "=," ++ outcome_text o =
    ap (λ (l : List ℕ). 61 ∷ l) (some_written (outcome_fields o) (outcome_some o) (outcome_written o h)) in
    ap (λ (l : List ℕ). l ++ 10 ∷ []) (sym body)

all_written_kept : (fs : List (List ℕ)) → all_written fs ≡ true → AllByRecursion IsKept fs
all_written_kept [] h = tt
all_written_kept (f ∷ fs) h = (let (p, q) = and_parts (list_all is_written f) (all_written fs) h in (written_kept f p, all_written_kept fs q))

pub outcome_row_kept : (o : Outcome) → IsWritableOutcome o → AllByRecursion IsKept (outcome_row o)
outcome_row_kept o h = (written_kept (codes "=") refl, all_written_kept (outcome_fields o) (outcome_written o h))

fronted : (fs : List (List ℕ)) → fs ≢ [] → IsFronted (codes "=" ∷ fs)
fronted [] n = absurd (n refl)
fronted (f ∷ fs) n = (refl, refl)

pub outcome_front : (o : Outcome) → IsFronted (outcome_row o)
outcome_front o = fronted (outcome_fields o) (outcome_some o)

-- what is readable can be written
pub readable_written : (o : Outcome) → IsReadableOutcome o → IsWritableOutcome o
readable_written o h = record {
  ids = all_map (λ (n : ℕ). n ≤ 65535) IsWide small (outcome_ids o) h.ids;
  numbers = all_map (λ (n : ℕ). n ≤ 999999999) IsWide low (outcome_numbers o) h.numbers;
  window = h.window;
}

-- and it is read
pub outcome_reads : OutcomesReadBack
unfolding outcome_of_fields
outcome_reads o h =
    outcome_back id_in numeral_of (λ n. n ≤ 65535) (λ n. n ≤ 999999999) (λ n le. number_back n 65535 le (omega arith)) numeral_back o h.ids h.numbers h.window
