-- The text of a line, field by field.
use Rattle.std.proofs.Common.{◌≡◌, ℕ, ◌<◌, List, [], ◌∷◌, ◌++◌, refl, sym, ap, ◌∙◌, arith, append-nil, append_assoc, false}
use Rattle.std.specs.Prelude.{◌==◌, Result, Ok, Err, OnOk}
use Rattle.std.proofs.lemmas.Bool.Decides.{nat_tests}
use Rattle.csv.specs.Writing.{default_writer, row_body, field_text, fields_text}
use Rattle.journal_text.specs.Lines.{Line, and_field, and_fields, no_fields, ended, line_text}

rest_text : (line : Line) (fields : List (List ℕ)) → 0 < line.fields → (and_fields line fields).text ≡ line.text ++ fields_text default_writer fields
unfolding fields_text
rest_text line [] some = sym (append-nil line.text)
rest_text line (f ∷ fs) some =
    let other : (line.fields == 0) ≡ false = grind (arith, nat_tests) in
    rest_text (and_field line f) fs (omega arith)
    ∙ (rw other (append_assoc line.text (44 ∷ field_text default_writer f) (fields_text default_writer fs)))

-- the text of a line of a field or more
pub whole_line : (f : List ℕ) (fs : List (List ℕ)) → (and_fields no_fields (f ∷ fs)).text ≡ row_body default_writer (f ∷ fs)
whole_line f fs = rest_text (and_field no_fields f) fs (omega arith)

-- more fields behind others
pub and_more : (line : Line) (xs ys : List (List ℕ)) → and_fields (and_fields line xs) ys ≡ and_fields line (xs ++ ys)
and_more line [] ys = refl
and_more line (x ∷ xs) ys = and_more (and_field line x) xs ys

pub ended_line : (line : Line) (f : List ℕ) (fs : List (List ℕ)) → line ≡ and_fields no_fields (f ∷ fs) → ended line ≡ line_text (f ∷ fs)
ended_line line f fs is = ap (λ (l : Line). ended l) is ∙ ap (λ (t : List ℕ). t ++ 10 ∷ []) (whole_line f fs)

-- what stands behind a line
pub behind : {E : Type 0} (r : Result (Unit {0}) E) (old line more more' middle new : List ℕ)
    → middle ≡ old ++ line → more' ≡ more → OnOk r (new ≡ middle ++ more') → OnOk r (new ≡ old ++ (line ++ more))
behind (Ok u) old line more more' middle new at same is =
    is ∙ ap (λ (m : List ℕ). m ++ more') at ∙ append_assoc old line more' ∙ ap (λ (m : List ℕ). old ++ (line ++ m)) same
behind (Err e) old line more more' middle new at same is = tt
