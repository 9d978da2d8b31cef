-- The fields that csv reads of a line without a double quote are the parts between its commas.
use Rattle.std.proofs.Common.{◌≡◌, ◌==◌, ◌&&◌, ◌++◌, ◌∷◌, ◌∙◌, [], ℕ, suc, ◌<◌, length, List, Option, Some, None, Bool, refl, sym, ap, true, false, append_assoc, inl, inr, arith}
use Rattle.std.specs.Prelude.{not, is_some, slice_index}
use Rattle.std.specs.List.{list_all, onto_first}
use Rattle.std.proofs.lemmas.List.Folds.{list_any_at}
use Rattle.std.proofs.lemmas.List.{append-nil}
use Rattle.std.proofs.lemmas.Bool.{cases_Bool, eqb-true, and_parts, or_parts}
use Rattle.csv.specs.Machine.{Read, next_record}
use Rattle.csv.specs.Reading.{default_config, strip_bom}
use Rattle.csv.specs.declared.parser.State.TheVariants as st
use Rattle.csv.proofs.RoundTrip.{start-same, record-same}
use Rattle.memchr.specs.Find.{IsFirstByte, is_byte}
use Rattle.guide_model.specs.Decoding.{IsKept}
use Rattle.input_lines.specs.Fields.{comma_parts, has_quote, is_bare, line_fields, fields_or_none}
use Rattle.input_lines.proofs.CleanLines.{clean_from}
use Rattle.input_lines.proofs.CleanBytes.{is_inner, inner_parts, clean_inner}

-- the first of the parts goes on with what stands in hand
abbrev onto : List ℕ → List (List ℕ) → List (List ℕ)
onto field [] = field ∷ []
onto field (part ∷ others) = (field ++ part) ∷ others

onto_more : (field : List ℕ) (b : ℕ) (ps : List (List ℕ)) → onto (field ++ b ∷ []) ps ≡ onto field (onto_first b ps)
onto_more field b [] = refl
onto_more field b (p ∷ ps) = ap (λ (f : List ℕ). f ∷ ps) (append_assoc field (b ∷ []) p)

none_onto : (b : ℕ) (ps : List (List ℕ)) → onto [] (onto_first b ps) ≡ onto_first b ps
none_onto b [] = refl
none_onto b (p ∷ ps) = refl

onto_none : (bs : List ℕ) → onto [] (comma_parts bs) ≡ comma_parts bs
onto_none [] = refl
onto_none (b ∷ bs) = elim (cases_Bool (b == 44)) [
  | inl e ↦ rw e refl
  | inr e ↦ rw e (none_onto b (comma_parts bs))
]

-- all fields, and nothing behind them
abbrev all_of : List (List ℕ) → Option Read
all_of fields = Some (fields, st.StartRecord, [])

comma : (fields : List (List ℕ)) (field tail : List ℕ) → next_record default_config st.InField fields field (44 ∷ tail) ≡ next_record default_config st.StartField (fields ++ field ∷ []) [] tail
unfolding next_record
comma fields field tail = refl

other : (fields : List (List ℕ)) (field : List ℕ) (b : ℕ) (tail : List ℕ) → (b == 44) ≡ false → is_inner b ≡ true
    → next_record default_config st.InField fields field (b ∷ tail) ≡ next_record default_config st.InField fields (field ++ b ∷ []) tail
unfolding next_record
other fields field b tail c i = let (n, r) = inner_parts b i in rw (c, r, n) refl

-- a field begins as one goes on
begun : (fields : List (List ℕ)) (bs : List ℕ) → has_quote bs ≡ false → next_record default_config st.StartField fields [] bs ≡ next_record default_config st.InField fields [] bs
unfolding next_record
begun fields [] q = refl
begun fields (b ∷ bs) q = start-same fields [] b bs (or_parts (b == 34) (has_quote bs) q).0

-- the fields up to the end, behind some fields and a part of one
ended : (fields : List (List ℕ)) (field : List ℕ) → next_record default_config st.InField fields field [] ≡ all_of (fields ++ field ∷ [])
unfolding next_record
ended fields field = refl

run : (bs : List ℕ) (fields : List (List ℕ)) (field : List ℕ) → list_all is_inner bs ≡ true → has_quote bs ≡ false → next_record default_config st.InField fields field bs ≡ all_of (fields ++ onto field (comma_parts bs))
run [] fields field i q = ended fields field ∙ ap (λ (f : List ℕ). all_of (fields ++ f ∷ [])) (sym (append-nil field))
run (b ∷ bs) fields field i q =
    let (first, more) = and_parts (is_inner b) (list_all is_inner bs) i in
    let unquoted = (or_parts (b == 34) (has_quote bs) q).1 in
    elim (cases_Bool (b == 44)) [
      | inl e ↦
          let is = eqb-true b 44 e in
          ap (λ c. next_record default_config st.InField fields field (c ∷ bs)) is
          ∙ comma fields field bs ∙ begun (fields ++ field ∷ []) bs unquoted ∙ run bs (fields ++ field ∷ []) [] more unquoted
          ∙ rw (e, onto_none bs, append-nil field, append_assoc fields (field ∷ []) (comma_parts bs)) refl
      | inr e ↦ other fields field b bs e first ∙ run bs fields (field ++ b ∷ []) more unquoted ∙ rw (e, onto_more field b (comma_parts bs)) refl
    ]

unmarked : (b : ℕ) (bs : List ℕ) → (b == 0xEF) ≡ false → strip_bom (b ∷ bs) ≡ b ∷ bs
unfolding strip_bom
unmarked b [] e = refl
unmarked b (c ∷ []) e = refl
unmarked b (c ∷ d ∷ bs) e = rw e refl

unquoted : (b : ℕ) (bs : List ℕ) → IsKept (b ∷ bs) → (b == 0xEF) ≡ false → has_quote (b ∷ bs) ≡ false → line_fields (b ∷ bs) ≡ comma_parts (b ∷ bs)
unquoted b bs kept e q =
    let inner = clean_inner (b ∷ bs) (clean_from (b ∷ bs) kept.utf8 kept.clean) in
    let first = inner_parts b (and_parts (is_inner b) (list_all is_inner bs) inner).0 in
    ap (λ (l : List ℕ). fields_or_none (next_record default_config st.StartRecord [] [] l)) (unmarked b bs e)
    ∙ ap fields_or_none (record-same [] [] b bs first.1 first.0 ∙ begun [] (b ∷ bs) q ∙ run (b ∷ bs) [] [] inner q)
    ∙ onto_none (b ∷ bs)

is_not : (b : Bool) → not b ≡ true → b ≡ false
is_not true e = cc e
is_not false e = refl

-- the fields of a bare line that may be kept
pub bare_fields : (line : List ℕ) → IsKept line → is_bare line ≡ true → line_fields line ≡ comma_parts line
bare_fields [] kept e = absurd (cc e)
bare_fields (b ∷ bs) kept e =
    let more = (and_parts (not (length (b ∷ bs) == 0)) (not (b == 0xEF) && not (has_quote (b ∷ bs))) e).1 in
    let (m, q) = and_parts (not (b == 0xEF)) (not (has_quote (b ∷ bs))) more in
    unquoted b bs kept (is_not (b == 0xEF) m) (is_not (has_quote (b ∷ bs)) q)

no_quote : (xs : List ℕ) → ((k : ℕ) → k < length xs → (slice_index xs k == 34) ≡ true → ⊥) → has_quote xs ≡ false
no_quote [] h = refl
no_quote (x ∷ xs) h = elim (cases_Bool (x == 34)) [
  | inl e ↦ absurd (h 0 (omega arith) e)
  | inr e ↦ rw e (no_quote xs (λ k l. h (suc k) (omega (arith, l))))
]

-- a search for a double quote tells whether there is one
pub quote_found : (xs : List ℕ) (r : Option ℕ) → IsFirstByte (is_byte 34) xs r → is_some r ≡ has_quote xs
quote_found xs None h = sym (no_quote xs (λ k l. h k (omega arith) l))
quote_found xs (Some k) h = sym (list_any_at (λ b. b == 34) xs k 0 h.0.high h.1)
