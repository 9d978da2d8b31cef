-- A text without a control character has no end of a line in it.
use Rattle.std.proofs.Common.{◌≡◌, ◌==◌, ◌&&◌, ◌∙◌, ◌<◌, ◌≤◌, ◌∷◌, [], ℕ, List, Bool, refl, sym, subst, true, false, inl, inr, arith, ⊎_elim}
use Rattle.std.specs.Prelude.{not}
use Rattle.std.specs.List.{list_all}
use Rattle.std.proofs.lemmas.Bool.{cases_Bool, cases_lt, ne_eqb, eqb-true, and_parts}
use Rattle.std.proofs.lemmas.List.Folds.{list_all-append}
use Rattle.std.proofs.lemmas.Str.{encode_ascii}
use lib.Utf8.{encode, encodes}
use Rattle.input_lines.proofs.CleanText.{is_plain_char, IsClean}
use Rattle.input_lines.proofs.Clean.{High, encode-high}

-- neither LF nor CR
abbrev pub is_inner : ℕ → Bool
is_inner b = not (b == 10) && not (b == 13)

high_inner : (xs : List ℕ) → High xs → list_all is_inner xs ≡ true
high_inner [] h = refl
high_inner (x ∷ xs) h =
    let k = h.0 in
    let a : (x == 10) ≡ false = ne_eqb x 10 (λ e. absurd (omega arith)) in
    let b : (x == 13) ≡ false = ne_eqb x 13 (λ e. absurd (omega arith)) in
    rw (a, b) (high_inner xs h.1)

plain_inner : (c : ℕ) → is_plain_char c ≡ true → is_inner c ≡ true
plain_inner c p = elim (cases_Bool (c == 10)) [
  | inl e ↦ absurd (let k : c ≡ 10 = eqb-true c 10 e in let n = rw k at p in cc n)
  | inr a ↦ elim (cases_Bool (c == 13)) [
    | inl e ↦ absurd (let k : c ≡ 13 = eqb-true c 13 e in let n = rw k at p in cc n)
    | inr b ↦ rw (a, b) refl
  ]
]

chars_inner : (cs : List ℕ) → list_all is_plain_char cs ≡ true → list_all is_inner (encodes cs) ≡ true
chars_inner [] h = refl
chars_inner (c ∷ cs) h =
    let (p, q) = and_parts (is_plain_char c) (list_all is_plain_char cs) h in
    let first : list_all is_inner (encode c) ≡ true = ⊎_elim
    (λ (low : c < 128). subst (λ (t : List ℕ). list_all is_inner t ≡ true) (sym (encode_ascii c low)) (rw (plain_inner c p) refl))
    (λ (high : 128 ≤ c). let (b, bs, e, k) = encode-high c high in high_inner (encode c) (subst High (sym e) k))
    (cases_lt c 128) in
    list_all-append is_inner (encode c) (encodes cs) ∙ rw (first, chars_inner cs q) refl

pub clean_inner : (xs : List ℕ) → IsClean xs → list_all is_inner xs ≡ true
clean_inner xs (cs, p, e) = subst (λ (l : List ℕ). list_all is_inner l ≡ true) e (chars_inner cs p)

pub inner_parts : (b : ℕ) → is_inner b ≡ true → ((b == 10) ≡ false) × ((b == 13) ≡ false)
inner_parts b h = elim (cases_Bool (b == 10)) [
  | inl e ↦ absurd (let k = rw e at h in cc k)
  | inr a ↦ elim (cases_Bool (b == 13)) [
    | inl e ↦ absurd (let k = rw (a, e) at h in cc k)
    | inr c ↦ (a, c)
  ]
]
