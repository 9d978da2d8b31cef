-- Elements of lists.
use Rattle.std.proofs.Common.{◌≡◌, ◌<◌, List, [], ◌∷◌, ◌++◌, length, map, refl, ap, arith}
use Rattle.std.specs.Prelude.{flat_map}
use Rattle.std.specs.List.{AllByRecursion, Contains}
use Rattle.std.proofs.lemmas.List.Elements.{All-contains, All-contains_itself, All-from_recursion, recursion_from_All, Contains-append_left, Contains-append_right}
use Rattle.si_lists.proofs.Lists.{all_map}

-- each element is one of the list
pub elements : {X : Type 0} (xs : List X) → AllByRecursion (Contains xs) xs
elements xs = recursion_from_All (Contains xs) xs (All-contains_itself xs)

-- what holds of each element of a list
pub of_element : {X : Type 0} (P : X → Type 0) (xs : List X) (x : X) → AllByRecursion P xs → Contains xs x → P x
of_element P xs x all has = All-contains P xs x (All-from_recursion P xs all) has

pub first_of : {X : Type 0} (x : X) (xs : List X) → Contains (x ∷ xs) x
first_of x xs = Contains-append_left (x ∷ []) xs x (0, let one : 0 < length (x ∷ []) = omega arith in one, refl)

pub rest_of : {X : Type 0} (x : X) (xs : List X) (y : X) → Contains xs y → Contains (x ∷ xs) y
rest_of x xs y has = Contains-append_right (x ∷ []) xs y has

-- a list with an element is two lists around it
pub around : {X : Type 0} (xs : List X) (x : X) → Contains xs x → (before after : List X) × (xs ≡ before ++ x ∷ after)
around xs x has = of_element (λ y. (before after : List _) × (xs ≡ before ++ y ∷ after)) xs x (go xs) has
  where
    go : {X : Type 0} (ys : List X) → AllByRecursion (λ y. (before after : List X) × (ys ≡ before ++ y ∷ after)) ys
    go [] = tt
    go (y ∷ ys) = (([], ys, refl), all_map _ _ (λ z p. (y ∷ p.0, p.1, ap (λ l. y ∷ l) p.2)) ys (go ys))

pub mapped : {X Y : Type 0} (f : X → Y) (xs : List X) (x : X) → Contains xs x → Contains (map f xs) (f x)
mapped f xs x has = of_element (λ y. Contains (map f xs) (f y)) xs x (go f xs) has
  where
    go : {X Y : Type 0} (f : X → Y) (ys : List X) → AllByRecursion (λ y. Contains (map f ys) (f y)) ys
    go f [] = tt
    go f (y ∷ ys) = (first_of (f y) (map f ys), all_map (λ z. Contains (map f ys) (f z)) (λ z. Contains (map f (y ∷ ys)) (f z)) (λ z has. rest_of (f y) (map f ys) (f z) has) ys (go f ys))

pub joined : {X Y : Type 0} (f : X → List Y) (xs : List X) (x : X) (y : Y) → Contains xs x → Contains (f x) y → Contains (flat_map f xs) y
joined f xs x y has in_one = of_element (λ z. Contains (f z) y → Contains (flat_map f xs) y) xs x (go f y xs) has in_one
  where
    go : {X Y : Type 0} (f : X → List Y) (y : Y) (zs : List X) → AllByRecursion (λ z. Contains (f z) y → Contains (flat_map f zs) y) zs
    go f y [] = tt
    go f y (z ∷ zs) = (
      λ has. Contains-append_left (f z) (flat_map f zs) y has,
      all_map (λ w. Contains (f w) y → Contains (flat_map f zs) y) (λ w. Contains (f w) y → Contains (flat_map f (z ∷ zs)) y) (λ w into has. Contains-append_right (f z) (flat_map f zs) y (into has)) zs (go f y zs),
    )
