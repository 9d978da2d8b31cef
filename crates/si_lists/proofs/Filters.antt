-- Lists, and those of their elements that pass a test.
use Rattle.std.proofs.Common.{◌≡◌, ◌∙◌, Bool, true, false, not, ℕ, List, [], ◌∷◌, ◌++◌, Option, None, refl, ap, inl, inr, arith}
use Rattle.std.specs.Prelude.{◌==◌}
use Rattle.std.specs.List.{AllByRecursion, filter, filter_map, cons_option, list_all, slice_split}
use Rattle.std.proofs.lemmas.Bool.{cases_Bool, and_parts}
use Rattle.std.proofs.lemmas.Bool.Decides.{nat_tests}
use Rattle.si_lists.proofs.Truths.{not_both}

-- what holds of those that pass
pub passed : {X : Type 0} (P : X → Type 0) (p : X → Bool) (xs : List X) → AllByRecursion P (filter p xs) → AllByRecursion (λ (x : X). p x ≡ true → P x) xs
passed P p [] h = tt
passed P p (x ∷ xs) h = elim (cases_Bool (p x)) [
  | inl e ↦ (let k = rw e at h in (λ t. k.0, passed P p xs k.1))
  | inr e ↦ (let k = rw e at h in (λ t. absurd (not_both (p x) t e), passed P p xs k))
]

-- those that do not pass give nothing
pub skipped : {X Y : Type 0} (f : X → Option Y) (p : X → Bool) (xs : List X) → AllByRecursion (λ (x : X). p x ≡ false → f x ≡ None) xs → filter_map f xs ≡ filter_map f (filter p xs)
skipped f p [] h = refl
skipped {Y = Y} f p (x ∷ xs) h = elim (cases_Bool (p x)) [
  | inl e ↦ rw e (ap (λ (l : List Y). cons_option (f x) l) (skipped f p xs h.1))
  | inr e ↦ rw e (ap (λ (o : Option Y). cons_option o (filter_map f xs)) (h.0 e) ∙ skipped f p xs h.1)
]

-- where all pass, all stay
pub all_stay : {X : Type 0} (p : X → Bool) (xs : List X) → AllByRecursion (λ (x : X). p x ≡ true) xs → filter p xs ≡ xs
all_stay p [] h = refl
all_stay {X = X} p (x ∷ xs) h = rw h.0 (ap (λ (l : List X). x ∷ l) (all_stay p xs h.1))

pub list_all-more : (P Q : ℕ → Bool) → ((b : ℕ) → P b ≡ true → Q b ≡ true) → (xs : List ℕ) → list_all P xs ≡ true → list_all Q xs ≡ true
list_all-more P Q f [] h = refl
list_all-more P Q f (x ∷ xs) h =
    let (p, q) = and_parts (P x) (list_all P xs) h in
    rw (f x p) (list_all-more P Q f xs q)

-- what stands before the byte is the first part
pub split_front : (c : ℕ) (xs ys : List ℕ) → list_all (λ b. not (b == c)) xs ≡ true → slice_split (λ b. b == c) (xs ++ c ∷ ys) ≡ xs ∷ slice_split (λ b. b == c) ys
split_front c [] ys h = let e : (c == c) ≡ true = grind (arith, nat_tests) in rw e refl
split_front c (x ∷ xs) ys h =
    elim (cases_Bool (x == c)) [
      | inl e ↦ absurd (let k = rw e at h in cc)
      | inr e ↦ (let more = split_front c xs ys (rw e at h) in rw (e, more) refl)
    ]

pub split_last : (c : ℕ) (xs : List ℕ) → list_all (λ b. not (b == c)) xs ≡ true → slice_split (λ b. b == c) xs ≡ xs ∷ []
split_last c [] h = refl
split_last c (x ∷ xs) h =
    elim (cases_Bool (x == c)) [
      | inl e ↦ absurd (let k = rw e at h in cc)
      | inr e ↦ (let more = split_last c xs (rw e at h) in rw (e, more) refl)
    ]
