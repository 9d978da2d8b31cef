-- A row of kept fields is a kept text, and a line of its own.
use Rattle.std.proofs.Common.{◌≡◌, ◌==◌, ◌∙◌, ◌<◌, ◌≤◌, ◌-◌, ◌++◌, ◌∷◌, [], ℕ, suc, zero, List, refl, sym, ap, subst, true, false, inl, inr, arith, length, take, ⊎_elim, append-nil, lit<}
use Rattle.std.specs.Prelude.{slice_index}
use Rattle.std.specs.List.{list_all, list_any, AllByRecursion}
use Rattle.std.proofs.lemmas.Bool.{cases_Bool, cases_lt, ne_eqb, and_parts}
use Rattle.std.proofs.lemmas.List.{take_all}
use Rattle.std.proofs.lemmas.List.Folds.{list_all-append}
use Rattle.std.proofs.lemmas.Str.{encode_ascii, encodes-append}
use lib.Utf8.{encode, encodes}
use Rattle.csv.specs.Writing.{default_writer, escaped, field_text, fields_text, needs_byte, row_body}
use Rattle.si_causes.specs.Lines.{raw_lines, onto, without_cr, shown}
use Rattle.guide_model.specs.Decoding.{IsKept}
use Rattle.input_lines.proofs.CleanText.{is_plain_char, IsClean, AllClean}
use Rattle.input_lines.proofs.Clean.{High, encode-high}
use Rattle.input_lines.proofs.CleanBytes.{is_inner, inner_parts}
use Rattle.input_lines.proofs.CleanLines.{clean_from}

-- ---- clean texts

pub clean_append : (xs ys : List ℕ) → IsClean xs → IsClean ys → IsClean (xs ++ ys)
clean_append xs ys (cs, p, e) (ds, q, f) =
    (cs ++ ds, list_all-append is_plain_char cs ds ∙ rw (p, q) refl, encodes-append cs ds ∙ rw (e, f) refl)

pub clean_none : IsClean []
clean_none = ([], refl, refl)

pub clean_char : (c : ℕ) → is_plain_char c ≡ true → IsClean (encode c)
clean_char c p = (c ∷ [], rw p refl, append-nil (encode c))

pub clean_byte : (c : ℕ) → c < 128 → is_plain_char c ≡ true → IsClean (c ∷ [])
clean_byte c low p = subst IsClean (encode_ascii c low) (clean_char c p)

clean_comma : IsClean (44 ∷ [])
clean_comma = clean_byte 44 (lit< tt) refl

clean_quote : IsClean (34 ∷ [])
clean_quote = clean_byte 34 (lit< tt) refl

-- ---- quoting

high_escaped : (xs ys : List ℕ) → High xs → escaped default_writer (xs ++ ys) ≡ xs ++ escaped default_writer ys
unfolding escaped
high_escaped [] ys h = refl
high_escaped (x ∷ xs) ys h =
    let other : (x == 34) ≡ false = ne_eqb x 34 (λ e. absurd (let k = h.0 in omega arith)) in
    rw other (ap (λ (l : List ℕ). x ∷ l) (high_escaped xs ys h.1))

low_escaped : (c : ℕ) (ys : List ℕ) → c < 128 → is_plain_char c ≡ true → IsClean (escaped default_writer ys) → IsClean (escaped default_writer (c ∷ ys))
unfolding escaped
low_escaped c ys low p h = elim (cases_Bool (c == 34)) [
  | inl e ↦ rw e (clean_append (34 ∷ []) (c ∷ escaped default_writer ys) clean_quote (clean_append (c ∷ []) (escaped default_writer ys) (clean_byte c low p) h))
  | inr e ↦ rw e (clean_append (c ∷ []) (escaped default_writer ys) (clean_byte c low p) h)
]

escaped_none : IsClean (escaped default_writer [])
unfolding escaped
escaped_none = clean_none

escaped_chars : (cs : List ℕ) → list_all is_plain_char cs ≡ true → IsClean (escaped default_writer (encodes cs))
escaped_chars [] h = escaped_none
escaped_chars (c ∷ cs) h =
    let (p, q) = and_parts (is_plain_char c) (list_all is_plain_char cs) h in
    let more = escaped_chars cs q in
    ⊎_elim
    (λ (low : c < 128). subst (λ (t : List ℕ). IsClean (escaped default_writer (t ++ encodes cs))) (sym (encode_ascii c low)) (low_escaped c (encodes cs) low p more))
    (λ (high : 128 ≤ c).
    let (b, bs, e, k) = encode-high c high in
    let bytes : High (encode c) = subst High (sym e) k in
    subst IsClean (sym (high_escaped (encode c) (encodes cs) bytes)) (clean_append (encode c) (escaped default_writer (encodes cs)) (clean_char c p) more))
    (cases_lt c 128)

escaped_clean : (xs : List ℕ) → IsClean xs → IsClean (escaped default_writer xs)
escaped_clean xs (cs, p, e) = subst (λ (l : List ℕ). IsClean (escaped default_writer l)) e (escaped_chars cs p)

pub field_clean : (xs : List ℕ) → IsClean xs → IsClean (field_text default_writer xs)
field_clean xs h = elim (cases_Bool (list_any (needs_byte default_writer) xs)) [
  | inl e ↦ rw e (clean_append (34 ∷ []) (escaped default_writer xs ++ 34 ∷ []) clean_quote (clean_append (escaped default_writer xs) (34 ∷ []) (escaped_clean xs h) clean_quote))
  | inr e ↦ rw e h
]

fields_clean : (fs : List (List ℕ)) → AllClean fs → IsClean (fields_text default_writer fs)
unfolding fields_text
fields_clean [] h = clean_none
fields_clean (f ∷ fs) h = clean_append (44 ∷ []) (field_text default_writer f ++ fields_text default_writer fs) clean_comma (clean_append (field_text default_writer f) (fields_text default_writer fs) (field_clean f h.0) (fields_clean fs h.1))

pub row_clean : (fs : List (List ℕ)) → AllClean fs → IsClean (row_body default_writer fs)
row_clean [] h = clean_none
row_clean (f ∷ fs) h = clean_append (field_text default_writer f) (fields_text default_writer fs) (field_clean f h.0) (fields_clean fs h.1)

pub all_clean : (fs : List (List ℕ)) → AllByRecursion IsKept fs → AllClean fs
all_clean [] h = tt
all_clean (f ∷ fs) h = (clean_from f h.0.utf8 h.0.clean, all_clean fs h.1)

-- ---- no end of a line inside

-- a text without an end of a line inside is the first line of what begins with it
pub line_first : (xs rest : List ℕ) → list_all is_inner xs ≡ true → raw_lines (xs ++ 10 ∷ rest) ≡ xs ∷ raw_lines rest
line_first [] rest h = refl
line_first (x ∷ xs) rest h =
    let (p, q) = and_parts (is_inner x) (list_all is_inner xs) h in
    let n = (inner_parts x p).0 in
    rw n (ap (onto x) (line_first xs rest q))

no_cr : (xs : List ℕ) (i : ℕ) → list_all is_inner xs ≡ true → (slice_index xs i == 13) ≡ false
no_cr [] i h = refl
no_cr (x ∷ xs) zero h = (inner_parts x (and_parts (is_inner x) (list_all is_inner xs) h).0).1
no_cr (x ∷ xs) (suc i) h = no_cr xs i (and_parts (is_inner x) (list_all is_inner xs) h).1

-- and is shown whole
pub line_shown : (xs : List ℕ) → list_all is_inner xs ≡ true → length xs ≤ 16385 → shown xs ≡ xs
line_shown xs h le =
    let whole : without_cr xs ≡ xs = rw (no_cr xs (length xs - 1) h) refl in
    ap (take 16385) whole ∙ take_all 16385 xs le
