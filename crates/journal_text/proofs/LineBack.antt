-- What the default writer writes of a record, without its LF, is read back as the record.
use Rattle.std.proofs.Common.{◌≡◌, ◌==◌, ◌++◌, ◌∷◌, ◌∙◌, [], ℕ, List, Bool, Some, refl, subst, true, false, append_assoc, inl, inr}
use Rattle.std.specs.Prelude.{◌||◌}
use Rattle.std.specs.List.{list_any}
use Rattle.std.proofs.lemmas.List.{append-nil}
use Rattle.std.proofs.lemmas.Bool.{cases_Bool}
use Rattle.csv.specs.Machine.{next_record}
use Rattle.csv.specs.Reading.{default_config}
use Rattle.csv.specs.Writing.{default_writer, field_text, fields_text, needs_byte, row_body}
use Rattle.csv.specs.declared.parser.State.TheVariants as st
use Rattle.csv.proofs.RoundTrip.{plain-run, quoted-run, start-same, record-same, field-run}

or-left : (a b : Bool) → (a || b) ≡ false → a ≡ false
or-left false b e = refl
or-left true b e = cc e

not-true : (x : Bool) → (x ≡ true → ⊥) → x ≡ false
not-true true n = absurd (n refl)
not-true false n = refl

plain-byte : (b : ℕ) → needs_byte default_writer b ≡ false → ((b == 44) ≡ false) × ((b == 34) ≡ false) × ((b == 13) ≡ false) × ((b == 10) ≡ false)
plain-byte b e =
    let a = not-true (b == 44) (λ t. cc (rw t at e)) in
    let q = not-true (b == 34) (λ t. cc (rw (a, t) at e)) in
    let r = not-true (b == 13) (λ t. cc (rw (a, q, t) at e)) in
    let n = not-true (b == 10) (λ t. cc (rw (a, q, r, t) at e)) in
    (a, q, r, n)

plain-end : (fields : List (List ℕ)) (x : List ℕ) → list_any (needs_byte default_writer) x ≡ false
    → next_record default_config st.StartField fields [] x ≡ Some (fields ++ (x ∷ []), st.StartRecord, [])
unfolding next_record
plain-end fields [] p = refl
plain-end fields (b ∷ rest) p =
    let q = plain-byte b (or-left _ _ p) in
    start-same fields [] b rest q.1
    ∙ subst (λ (t : List ℕ). next_record default_config st.InField fields [] t ≡ Some (fields ++ ((b ∷ rest) ∷ []), st.StartRecord, [])) (append-nil (b ∷ rest)) (plain-run fields [] (b ∷ rest) [] p)

-- the last field of a text
pub field-end : (fields : List (List ℕ)) (x : List ℕ)
    → next_record default_config st.StartField fields [] (field_text default_writer x) ≡ Some (fields ++ (x ∷ []), st.StartRecord, [])
unfolding next_record
field-end fields x = elim (cases_Bool (list_any (needs_byte default_writer) x)) [
  | inl needs ↦ rw needs (quoted-run fields [] x [])
  | inr plain ↦ rw plain (plain-end fields x plain)
]

end-field : (fields : List (List ℕ)) (x u : List ℕ)
    → next_record default_config st.InField fields x (44 ∷ u) ≡ next_record default_config st.StartField (fields ++ (x ∷ [])) [] u
unfolding next_record
end-field fields x u = refl

-- the fields after the first, up to the end of the text
pub rest-end : (fields : List (List ℕ)) (x : List ℕ) (rest : List (List ℕ))
    → next_record default_config st.InField fields x (fields_text default_writer rest) ≡ Some (fields ++ (x ∷ rest), st.StartRecord, [])
unfolding next_record fields_text
rest-end fields x [] = refl
rest-end fields x (y ∷ []) =
    let last : next_record default_config st.StartField (fields ++ (x ∷ [])) [] (field_text default_writer y ++ []) ≡ Some ((fields ++ (x ∷ [])) ++ (y ∷ []), st.StartRecord, []) =
    rw (append-nil (field_text default_writer y)) (field-end (fields ++ (x ∷ [])) y) in
    end-field fields x (field_text default_writer y ++ []) ∙ last ∙ rw (append_assoc fields (x ∷ []) (y ∷ [])) refl
rest-end fields x (y ∷ z ∷ zs) =
    end-field fields x (field_text default_writer y ++ (44 ∷ (field_text default_writer z ++ fields_text default_writer zs)))
    ∙ field-run (fields ++ (x ∷ [])) y 44 (field_text default_writer z ++ fields_text default_writer zs) refl
    ∙ rest-end (fields ++ (x ∷ [])) y (z ∷ zs)
    ∙ rw (append_assoc fields (x ∷ []) (y ∷ z ∷ zs)) refl

-- a first byte that ends no record
first-same : (x : List ℕ) (u : List ℕ) → list_any (needs_byte default_writer) x ≡ false
    → next_record default_config st.StartRecord [] [] (x ++ (44 ∷ u)) ≡ next_record default_config st.StartField [] [] (x ++ (44 ∷ u))
first-same [] u p = record-same [] [] 44 u refl refl
first-same (b ∷ rest) u p =
    let q = plain-byte b (or-left _ _ p) in
    record-same [] [] b (rest ++ (44 ∷ u)) q.2 q.3

-- a record of two fields or more, without its LF
pub line-back : (x y : List ℕ) (ys : List (List ℕ))
    → next_record default_config st.StartRecord [] [] (row_body default_writer (x ∷ y ∷ ys)) ≡ Some (x ∷ y ∷ ys, st.StartRecord, [])
unfolding fields_text
line-back x y ys =
    let u = field_text default_writer y ++ fields_text default_writer ys in
    let start : next_record default_config st.StartRecord [] [] (field_text default_writer x ++ (44 ∷ u)) ≡ next_record default_config st.StartField [] [] (field_text default_writer x ++ (44 ∷ u)) =
    elim (cases_Bool (list_any (needs_byte default_writer) x)) [
      | inl needs ↦ rw needs (record-same [] [] 34 _ refl refl)
      | inr plain ↦ rw plain (first-same x u plain)
    ] in
    start ∙ field-run [] x 44 u refl ∙ rest-end [] x (y ∷ ys)
