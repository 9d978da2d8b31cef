-- The words that say why a line is at fault are printing characters.
use Rattle.std.proofs.Common.{◌≡◌, ◌∙◌, ◌<◌, ◌*◌, ◌/◌, ◌%◌, ◌==◌, ◌++◌, ◌∷◌, [], ℕ, zero, suc, List, Bool, refl, true, false, inl, inr, arith}
use Rattle.std.specs.Prelude.{codes, decimal}
use Rattle.std.specs.Fmt.{digit_glyph, digits, digits_onto}
use Rattle.std.specs.List.{list_all}
use Rattle.std.proofs.lemmas.Bool.{and_parts, cases_Bool}
use Rattle.std.proofs.lemmas.Bool.Decides.{nat_tests}
use Rattle.std.proofs.lemmas.List.Folds.{list_all-append}
use Rattle.si_lists.proofs.Filters.{list_all-more}
use Rattle.guide_model.specs.Control.{all_printing, is_printing}
use Rattle.si_time.specs.Moments.{moment_text}
use Rattle.journal_model.specs.declared.reply.Field.{Field}
use Rattle.journal_model.specs.declared.reply.Field.TheVariants.{Count, Segment}
use Rattle.journal_model.specs.declared.reply.DayFault.{DayFault}
use Rattle.journal_model.specs.declared.reply.DayFault.TheVariants.{Range as BadValue, Overlap as Overlaps}
use Rattle.journal_model.specs.declared.reply.Reply.TheVariants.{Done, Foreign, Range, Overlap, Member}
use Rattle.journal_model.specs.declared.step.Outcome.{Outcome}
use Rattle.journal_model.specs.declared.step.Outcome.TheVariants.{Edited, Ticked, Late, Published, Swapped}
use Rattle.journal_model.specs.Steps.{IsInWindow}
use Rattle.script_lines.specs.Outcomes.{day_fault_fields, field_fields, outcome_fields}
use Rattle.journal_text.proofs.PlainFields.{is_written, moment_written}
use Rattle.journal_text.specs.Entries.{outcome_text, with_commas}
use Rattle.script_notes.specs.declared.why.LineWord.{LineWord}
use Rattle.script_notes.specs.declared.why.LineWord.TheVariants as word
use Rattle.script_notes.specs.declared.why.FieldName.{FieldName}
use Rattle.script_notes.specs.declared.why.FieldName.TheVariants as field
use Rattle.script_notes.specs.declared.why.Why.TheVariants.{Disagrees, Misplaced, NoCommand, NoEdit, FieldCount, BadField}
use Rattle.script_notes.specs.Whys.{WordsArePrinting, fault_text, field_text, fields_behind, place_text, word_text}

-- two texts, one after the other
both : (a b : List ℕ) → all_printing a ≡ true → all_printing b ≡ true → all_printing (a ++ b) ≡ true
both a b h k = list_all-append is_printing a b ∙ rw (h, k) refl

-- ---- numbers

glyph_printing : (d : ℕ) → d < 10 → is_printing (digit_glyph false d) ≡ true
glyph_printing d lt = grind (arith, nat_tests)

digits_printing : (k n : ℕ) (acc : List ℕ) → all_printing acc ≡ true → all_printing (digits_onto k 10 false n acc) ≡ true
digits_printing zero n acc h = h
digits_printing (suc k) n acc h =
    let digit : is_printing (digit_glyph false (n % 10)) ≡ true = glyph_printing (n % 10) (omega arith) in
    let more : all_printing (digit_glyph false (n % 10) ∷ acc) ≡ true = rw digit h in
    elim (cases_Bool (n / 10 == 0)) [
      | inl e ↦ rw e more
      | inr e ↦ rw e (digits_printing k (n / 10) (digit_glyph false (n % 10) ∷ acc) more)
    ]

number_printing : (n : ℕ) → all_printing (decimal n) ≡ true
unfolding digits
number_printing n = digits_printing 64 n [] refl

-- ---- outcomes

written_printing : (b : ℕ) → is_written b ≡ true → is_printing b ≡ true
written_printing b h = grind (arith, nat_tests)

moment_printing : (t : ℕ) → t < 65536 * 86400 → all_printing (moment_text t) ≡ true
moment_printing t lt = list_all-more is_written is_printing written_printing (moment_text t) (moment_written t lt)

abbrev all_fields : List (List ℕ) → Bool
all_fields fields = list_all (λ (f : List ℕ). all_printing f) fields

commas_printing : (fields : List (List ℕ)) → all_fields fields ≡ true → all_printing (with_commas fields) ≡ true
commas_printing [] h = refl
commas_printing (f ∷ []) h = (and_parts (all_printing f) true h).0
commas_printing (f ∷ g ∷ fields) h =
    let (p, q) = and_parts (all_printing f) (all_fields (g ∷ fields)) h in
    both f (44 ∷ with_commas (g ∷ fields)) p (commas_printing (g ∷ fields) q)

field_of_printing : (f : Field) → all_fields (field_fields f) ≡ true
field_of_printing (Count n) = rw (number_printing n) refl
field_of_printing (Segment n) = rw (number_printing n) refl
field_of_printing other = refl

day_fault_printing : (fault : DayFault) → all_fields (day_fault_fields fault) ≡ true
day_fault_printing (BadValue f) = field_of_printing f
day_fault_printing (Overlaps e) = rw (number_printing e) refl

fields_printing : (o : Outcome) → IsInWindow o → all_fields (outcome_fields o) ≡ true
fields_printing (Edited Done) w = refl
fields_printing (Edited (Foreign s)) w = rw (number_printing s) refl
fields_printing (Edited (Range f)) w = field_of_printing f
fields_printing (Edited (Overlap e)) w = rw (number_printing e) refl
fields_printing (Edited (Member i fault)) w = rw (number_printing i) (day_fault_printing fault)
fields_printing Ticked w = refl
fields_printing (Late at) w = rw (moment_printing at.0 w) refl
fields_printing (Published n) w = rw (number_printing n) refl
fields_printing (Swapped n at) w = rw (number_printing n, moment_printing at.0 w) refl

outcome_printing : (o : Outcome) → IsInWindow o → all_printing (outcome_text o) ≡ true
outcome_printing o w = commas_printing (outcome_fields o) (fields_printing o w)

-- ---- words

word_printing : (w : LineWord) → all_printing (word_text w) ≡ true
word_printing word.Publish = refl
word_printing word.Swap = refl
word_printing word.Tick = refl
word_printing word.Put = refl
word_printing word.Withdraw = refl
word_printing word.Clear = refl
word_printing word.Name = refl
word_printing word.Day = refl
word_printing word.Item = refl

place_printing : (w : LineWord) → all_printing (place_text w) ≡ true
place_printing word.Item = refl
place_printing other = refl

field_printing : (name : FieldName) → all_printing (field_text name) ≡ true
field_printing field.Moment = refl
field_printing field.Feed = refl
field_printing field.Service = refl
field_printing field.Event = refl
field_printing field.Start = refl
field_printing field.Duration = refl
field_printing field.Date = refl
field_printing field.Count = refl
field_printing field.Country = refl
field_printing field.Rating = refl
field_printing field.Genres = refl
field_printing field.Descriptors = refl

fault_printing : (name : FieldName) → all_printing (fault_text name) ≡ true
fault_printing field.Moment = refl
fault_printing field.Feed = refl
fault_printing field.Service = refl
fault_printing field.Event = refl
fault_printing field.Start = refl
fault_printing field.Duration = refl
fault_printing field.Date = refl
fault_printing field.Count = refl
fault_printing field.Country = refl
fault_printing field.Rating = refl
fault_printing field.Genres = refl
fault_printing field.Descriptors = refl

numbered_printing : (k : ℕ) (is : List ℕ) → all_printing is ≡ true → all_printing (codes "field " ++ decimal k ++ is) ≡ true
numbered_printing k is h = both (codes "field " ++ decimal k) is (both (codes "field ") (decimal k) refl (number_printing k)) h

pub words_printing : WordsArePrinting
words_printing (Disagrees kept found) h =
    both (codes "kept " ++ outcome_text kept ++ codes " found ") (outcome_text found)
    (both (codes "kept " ++ outcome_text kept) (codes " found ") (both (codes "kept ") (outcome_text kept) refl (outcome_printing kept h.0)) refl)
    (outcome_printing found h.1)
words_printing (Misplaced w) h = both (word_text w) (place_text w) (word_printing w) (place_printing w)
words_printing (NoCommand k) h = numbered_printing k (codes " is no command") refl
words_printing (NoEdit k) h = numbered_printing k (codes " is no edit") refl
words_printing (FieldCount w n) h =
    let many = number_printing (fields_behind w) in
    let first = both (word_text w) (codes " takes ") (word_printing w) refl in
    let second = both (word_text w ++ codes " takes ") (decimal (fields_behind w)) first many in
    both (word_text w ++ codes " takes " ++ decimal (fields_behind w) ++ codes " fields and has ") (decimal n)
    (both (word_text w ++ codes " takes " ++ decimal (fields_behind w)) (codes " fields and has ") second refl) (number_printing n)
words_printing (BadField name k) h =
    let first = both (field_text name) (codes " (field ") (field_printing name) refl in
    let second = both (field_text name ++ codes " (field ") (decimal k) first (number_printing k) in
    both (field_text name ++ codes " (field " ++ decimal k ++ codes ") is ") (fault_text name)
    (both (field_text name ++ codes " (field " ++ decimal k) (codes ") is ") second refl) (fault_printing name)
words_printing why h = refl
