-- How many elements of a list give something.
use Rattle.std.proofs.Common.{◌≡◌, ◌≤◌, ◌<◌, ◌+◌, ◌∙◌, ℕ, true, false, List, [], ◌∷◌, ◌++◌, length, take, get_or, refl, sym, ap, arith, length-append}
use Rattle.std.specs.Prelude.{Option, None, Some, is_some, filter_map}
use Rattle.std.specs.List.{cons_option}
use Rattle.std.proofs.lemmas.List.{take_more}
use Rattle.std.proofs.lemmas.List.Elements.{filter_map-append}

next : {X : Type 0} (xs : List X) (i : ℕ) (x : X) → i < length xs → x ≡ get_or xs i x → take (i + 1) xs ≡ take i xs ++ x ∷ []
next xs i x lt is = take_more xs i x lt ∙ ap (λ y. take i xs ++ y ∷ []) (sym is)

more : {X Y : Type 0} (f : X → Option Y) (xs : List X) (x : X) → length (filter_map f (xs ++ x ∷ [])) ≡ length (filter_map f xs) + length (cons_option (f x) [])
more f xs x = ap length (filter_map-append f xs (x ∷ [])) ∙ length-append (filter_map f xs) (cons_option (f x) [])

given : {Y : Type 0} (o : Option Y) → is_some o ≡ true → length (cons_option o []) ≡ 1
given None is = cc is
given (Some y) is = refl

not_given : {Y : Type 0} (o : Option Y) → is_some o ≡ false → length (cons_option o []) ≡ 0
not_given None is = refl
not_given (Some y) is = cc is

-- one element more gives one more, or none
pub counts_more : {X Y : Type 0} (f : X → Option Y) (xs : List X) (i : ℕ) (x : X) → i < length xs → x ≡ get_or xs i x → is_some (f x) ≡ true
    → length (filter_map f (take (i + 1) xs)) ≡ length (filter_map f (take i xs)) + 1
counts_more f xs i x lt at is =
    ap (λ l. length (filter_map f l)) (next xs i x lt at) ∙ more f (take i xs) x ∙ ap (λ (n : ℕ). length (filter_map f (take i xs)) + n) (given (f x) is)

pub counts_same : {X Y : Type 0} (f : X → Option Y) (xs : List X) (i : ℕ) (x : X) → i < length xs → x ≡ get_or xs i x → is_some (f x) ≡ false
    → length (filter_map f (take (i + 1) xs)) ≡ length (filter_map f (take i xs))
counts_same f xs i x lt at is =
    let none = not_given (f x) is in
    let all = ap (λ l. length (filter_map f l)) (next xs i x lt at) ∙ more f (take i xs) x in
    omega (arith, none, all)

-- where each element that gives something by one test does so by another, it counts no more by the first
pub counts_fewer : {X Y Z : Type 0} (f : X → Option Y) (g : X → Option Z) → ((x : X) → is_some (f x) ≡ true → is_some (g x) ≡ true) → (xs : List X)
    → length (filter_map f xs) ≤ length (filter_map g xs)
counts_fewer f g goes [] = omega arith
counts_fewer {Y = Y} {Z = Z} f g goes (x ∷ xs) = by (f x) (g x) (goes x) (counts_fewer f g goes xs)
  where
    by : (a : Option Y) (b : Option Z) → (is_some a ≡ true → is_some b ≡ true) → length (filter_map f xs) ≤ length (filter_map g xs)
        → length (cons_option a (filter_map f xs)) ≤ length (cons_option b (filter_map g xs))
    by None None goes le = le
    by None (Some z) goes le = omega (arith, le)
    by (Some y) None goes le = let no : false ≡ true = goes refl in cc no
    by (Some y) (Some z) goes le = omega (arith, le)
