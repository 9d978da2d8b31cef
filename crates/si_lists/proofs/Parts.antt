-- Parts of lists.
use Rattle.std.proofs.Common.{◌≡◌, ℕ, zero, suc, ◌+◌, ◌-◌, ◌<◌, ◌≤◌, ◌⊎◌, inl, inr, List, [], ◌∷◌, ◌++◌, length, take, drop, get_or, Option, Some, None, refl, sym}
use Rattle.std.proofs.Common.{ap, ap₂, ◌∙◌, subst, arith}
use Rattle.std.specs.Prelude.{filter_map}
use Rattle.std.specs.List.{cons_option}
use Rattle.std.proofs.Math.Seq.{drop-append-add}
use Rattle.std.proofs.lemmas.List.{take-append-drop, take-take, drop-take, drop-append-le, drop_all, length-append}
use Rattle.std.proofs.lemmas.List.Elements.{filter_map-append}

pub le_either : (n m : ℕ) → (n ≤ m) ⊎ (m ≤ n)
le_either n m = grind arith

pub lt_or : (n m : ℕ) → (n < m) ⊎ (m ≤ n)
lt_or n m = grind arith

-- the first elements, and some more
pub take-further : {X : Type 0} (n m : ℕ) (xs : List X) → take (n + m) xs ≡ take n xs ++ take m (drop n xs)
take-further n m xs =
    sym (take-append-drop n (take (n + m) xs)) ∙ ap₂ (λ ys zs. ys ++ zs) (take-take n (n + m) xs (omega arith)) (drop-take n m xs)

-- what is left of two lists behind a place
pub drop-both : {X : Type 0} (n : ℕ) (xs ys : List X) → drop n (xs ++ ys) ≡ drop n xs ++ drop (n - length xs) ys
drop-both n xs ys = go (le_either n (length xs))
  where
    go : (n ≤ length xs) ⊎ (length xs ≤ n) → drop n (xs ++ ys) ≡ drop n xs ++ drop (n - length xs) ys
    go (inl le) = drop-append-le n xs ys le ∙ ap (λ k. drop n xs ++ drop k ys) (let none : 0 ≡ n - length xs = omega (arith, le) in none)
    go (inr le) =
        ap (λ k. drop k (xs ++ ys)) (let sum : n ≡ length xs + (n - length xs) = omega (arith, le) in sum)
        ∙ drop-append-add xs ys (n - length xs)
        ∙ ap (λ zs. zs ++ drop (n - length xs) ys) (sym (drop_all n xs le))

-- what is left of two lists behind the first
pub drop_behind : {X : Type 0} (n : ℕ) (xs ys : List X) → length xs ≤ n → drop n (xs ++ ys) ≡ drop (n - length xs) ys
drop_behind n xs ys le = drop-both n xs ys ∙ ap (λ (l : List _). l ++ drop (n - length xs) ys) (drop_all n xs le)

-- so many are chosen of a list
pub chosen-front : {X Y : Type 0} (f : X → Option Y) (xs ys : List X) → length (filter_map f xs) ≤ length (filter_map f (xs ++ ys))
chosen-front f xs ys =
    let all : length (filter_map f (xs ++ ys)) ≡ length (filter_map f xs) + length (filter_map f ys) =
    ap length (filter_map-append f xs ys) ∙ length-append (filter_map f xs) (filter_map f ys) in
    omega (arith, all)

pub chosen-fewer : {X Y : Type 0} (f : X → Option Y) (xs : List X) → length (filter_map f xs) ≤ length xs
chosen-fewer f [] = omega arith
chosen-fewer f (x ∷ xs) = go (f x) (chosen-fewer f xs)
  where
    go : (o : Option _) → length (filter_map f xs) ≤ length xs → length (cons_option o (filter_map f xs)) ≤ length (x ∷ xs)
    go None le = omega (arith, le)
    go (Some y) le = omega (arith, le)

-- and of its first elements
pub chosen-before : {X Y : Type 0} (f : X → Option Y) (n m : ℕ) (xs : List X) → n ≤ m
    → length (filter_map f (take n xs)) ≤ length (filter_map f (take m xs))
chosen-before f n m xs le =
    let sum : n + (m - n) ≡ m = omega (arith, le) in
    let cut : take m xs ≡ take n xs ++ take (m - n) (drop n xs) = ap (λ k. take k xs) (sym sum) ∙ take-further n (m - n) xs in
    subst (λ ys. length (filter_map f (take n xs)) ≤ length (filter_map f ys)) (sym cut)
    (chosen-front f (take n xs) (take (m - n) (drop n xs)))

-- ---- the last element of a front

none_taken : {X : Type 0} (k : ℕ) (xs : List X) → take k xs ≡ [] → k ≤ length xs → k ≡ 0
none_taken zero xs e le = refl
none_taken (suc k) [] e le = absurd (omega arith)
none_taken (suc k) (x ∷ xs) e le = cc

-- what is left of a front once its last element is popped, and which that is
pub popped : {X : Type 0} (m : ℕ) (all new : List X) (x : X) → take m all ≡ new ++ x ∷ [] → m ≤ length all
    → (m ≡ length new + 1) × (new ≡ take (length new) all) × (x ≡ get_or all (length new) x)
popped zero all [] x e le = cc
popped zero all (y ∷ new) x e le = cc
popped (suc m) [] new x e le = absurd (omega arith)
popped (suc m) (a ∷ all) [] x e le =
    let rest : take m all ≡ [] = cc in
    let same : x ≡ a = cc in
    let none : m ≡ 0 = none_taken m all rest (omega arith) in
    (omega arith, refl, same)
popped (suc m) (a ∷ all) (b ∷ new) x e le =
    let rest : take m all ≡ new ++ x ∷ [] = cc in
    let same : b ≡ a = cc in
    let r = popped m all new x rest (omega arith) in
    (omega (arith, r.0), (let front = r.1 in cc), r.2)
