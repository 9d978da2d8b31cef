-- The last of some lines, and what stands before it.
use Rattle.std.proofs.Common.{◌≡◌, ◌⊎◌, ℕ, true, List, [], ◌∷◌, ◌++◌, length, refl, sym, ap, ◌∙◌, inl, inr, arith, length-append}
use Rattle.std.specs.List.{list_all}
use Rattle.std.proofs.lemmas.List.Folds.{list_all-append}
use Rattle.si_lists.proofs.Truths.{first_true}
use Rattle.input_lines.specs.Lines.{is_passed}

pub nothing_front : {A : Type 0} (xs ys : List A) → xs ++ ys ≡ [] → xs ≡ []
nothing_front [] ys e = refl
nothing_front (x ∷ xs) ys e = cc

pub alone : {A : Type 0} (rest : List A) (x last : A) → x ∷ [] ≡ rest ++ last ∷ [] → rest ≡ []
alone [] x last e = refl
alone (y ∷ rest) x last e = absurd (omega (arith, ap length e, length-append rest (last ∷ [])))

pub none_last : {A : Type 0} (front : List A) (last : A) → [] ≡ front ++ last ∷ [] → ⊥
none_last front last e = omega (arith, ap length e, length-append front (last ∷ []))

-- the last line is of the later ones, or there are none
pub last_split : {A : Type 0} (xs ys front : List A) (last : A) → xs ++ ys ≡ front ++ last ∷ [] → (xs ≡ front ++ last ∷ []) ⊎ ((rest : List A) × (ys ≡ rest ++ last ∷ []) × (front ≡ xs ++ rest))
last_split [] ys front last e = inr (front, e, refl)
last_split (x ∷ xs) ys [] last e =
    let others : xs ++ ys ≡ [] = cc e in
    let none : xs ≡ [] = nothing_front xs ys others in
    let same : x ≡ last = cc e in
    inl (ap (λ l. x ∷ l) none ∙ ap (λ l. l ∷ []) same)
last_split (x ∷ xs) ys (f ∷ front) last e =
    let others : xs ++ ys ≡ front ++ last ∷ [] = cc e in
    let same : x ≡ f = cc e in
    elim (last_split xs ys front last others) [
      | inl here ↦ inl (ap (λ l. x ∷ l) here ∙ ap (λ l. l ∷ (front ++ last ∷ [])) same)
      | inr (rest, there, is) ↦ inr (rest, there, ap (λ l. f ∷ l) is ∙ ap (λ l. l ∷ (xs ++ rest)) (sym same))
    ]

pub before_last : {A : Type 0} (over : List A) (x : A) (front : List A) (last : A) → over ++ x ∷ [] ≡ front ++ last ∷ [] → front ≡ over ++ []
before_last over x front last e = elim (last_split over (x ∷ []) front last e) [
  | inl here ↦ absurd (omega (arith, ap length e, ap length here, length-append over (x ∷ [])))
  | inr (rest, there, is) ↦ is ∙ ap (λ l. over ++ l) (alone rest x last there)
]

-- of lines that are all passed over, those before the last are
pub front_passed : (over front : List (List ℕ)) (last : List ℕ) → list_all is_passed over ≡ true → over ≡ front ++ last ∷ [] → list_all is_passed front ≡ true
front_passed over front last passed e =
    first_true (list_all is_passed front) (list_all is_passed (last ∷ [])) (sym (list_all-append is_passed front (last ∷ [])) ∙ ap (list_all is_passed) (sym e) ∙ passed)
