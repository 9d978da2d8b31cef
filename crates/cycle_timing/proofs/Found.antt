-- Where the first of a list stands that passes a test.
use Rattle.std.proofs.Common.{◌≡◌, ℕ, suc, ◌+◌, ◌<◌, List, [], ◌∷◌, ◌++◌, Bool, true, false, Option, Some, None, length, refl, sym, ap, ◌∙◌, arith}
use Rattle.std.specs.Prelude.{if◌then◌else◌, not, option_map}
use Rattle.std.specs.Option.{option_or, unwrap_or}
use Rattle.std.specs.List.{prefix_len}

abbrev pub found : {A X : Type 0} → (A → X → Bool) → List X → A → Option ℕ
found is [] k = None
found is (x ∷ xs) k = if is k x then Some 0 else option_map suc (found is xs k)

one_later : (o : Option ℕ) (b : Bool) (n : ℕ) → option_map suc (option_or o (if b then Some n else None)) ≡ option_or (option_map suc o) (if b then Some (suc n) else None)
one_later None true n = refl
one_later None false n = refl
one_later (Some i) b n = refl

pub found_push : {A X : Type 0} (is : A → X → Bool) (xs : List X) (x : X) (k : A) → found is (xs ++ x ∷ []) k ≡ option_or (found is xs k) (if is k x then Some (length xs) else None)
found_push is [] x k = refl
found_push is (y ∷ xs) x k = go (is k y) (found_push is xs x k)
  where
    go : (b : Bool) → found is (xs ++ x ∷ []) k ≡ option_or (found is xs k) (if is k x then Some (length xs) else None)
        → (if b then Some 0 else option_map suc (found is (xs ++ x ∷ []) k)) ≡ option_or (if b then Some 0 else option_map suc (found is xs k)) (if is k x then Some (suc (length xs)) else None)
    go true e = refl
    go false e = ap (option_map suc) e ∙ one_later (found is xs k) (is k x) (length xs)

pub found_within : {A X : Type 0} (is : A → X → Bool) (xs : List X) (k : A) (i : ℕ) → found is xs k ≡ Some i → i < length xs
found_within is [] k i e = cc
found_within is (x ∷ xs) k i e = go (is k x) (found is xs k) (found_within is xs k) e
  where
    go : (b : Bool) (o : Option ℕ) → ((j : ℕ) → o ≡ Some j → j < length xs) → (if b then Some 0 else option_map suc o) ≡ Some i → i < suc (length xs)
    go true o h f = let z : 0 ≡ i = cc in omega arith
    go false None h f = cc
    go false (Some j) h f = let z : suc j ≡ i = cc in let l = h j refl in omega arith

-- ---- the first one that passes, in the whole of a list

suc_or : (o : Option ℕ) (n : ℕ) → unwrap_or (option_map suc o) (suc n) ≡ suc (unwrap_or o n)
suc_or None n = refl
suc_or (Some i) n = refl

pub place_is : {A X : Type 0} (is : A → X → Bool) (xs : List X) (x : X) (more : List X) (k : A) → is k x ≡ true
    → unwrap_or (found is xs k) (length xs) ≡ prefix_len (λ (y : X). not (is k y)) (xs ++ x ∷ more)
place_is is [] x more k e = sym (ap (λ (b : Bool). if not b then 1 + prefix_len (λ y. not (is k y)) more else 0) e)
place_is is (y ∷ xs) x more k e = go (is k y) (place_is is xs x more k e)
  where
    go : (b : Bool) → unwrap_or (found is xs k) (length xs) ≡ prefix_len (λ y. not (is k y)) (xs ++ x ∷ more)
        → unwrap_or (if b then Some 0 else option_map suc (found is xs k)) (suc (length xs)) ≡ (if not b then 1 + prefix_len (λ y. not (is k y)) (xs ++ x ∷ more) else 0)
    go true h = refl
    go false h = let s = suc_or (found is xs k) (length xs) in omega arith

pub place_within : {A X : Type 0} (is : A → X → Bool) (xs : List X) (x : X) (more : List X) (k : A) → is k x ≡ true
    → prefix_len (λ (y : X). not (is k y)) (xs ++ x ∷ more) < length (xs ++ x ∷ more)
place_within is [] x more k e = let z : prefix_len (λ y. not (is k y)) (x ∷ more) ≡ 0 = ap (λ (b : Bool). if not b then 1 + prefix_len (λ y. not (is k y)) more else 0) e in omega arith
place_within is (y ∷ xs) x more k e = go (is k y) (place_within is xs x more k e)
  where
    go : (b : Bool) → prefix_len (λ y. not (is k y)) (xs ++ x ∷ more) < length (xs ++ x ∷ more) → (if not b then 1 + prefix_len (λ y. not (is k y)) (xs ++ x ∷ more) else 0) < suc (length (xs ++ x ∷ more))
    go true h = omega arith
    go false h = omega arith
