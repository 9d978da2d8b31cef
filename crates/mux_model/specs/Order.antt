-- Lists in an order that a test gives: whether the first of two comes before the second.
use Rattle.std.specs.Prelude.{◌≡◌, Bool, true, if◌then◌else◌, List, [], ◌∷◌}
use Rattle.std.specs.List.{AllByRecursion}

-- each comes before the later ones
abbrev pub DoCome : {X : Type 0} → (X → X → Bool) → List X → Type 0
DoCome before [] = Unit {0}
DoCome before (x ∷ xs) = AllByRecursion (λ y. before x y ≡ true) xs × DoCome before xs

-- one more, ahead of the first that it comes before
abbrev pub placed : {X : Type 0} → (X → X → Bool) → X → List X → List X
placed before x [] = x ∷ []
placed before x (y ∷ ys) = if before x y then x ∷ y ∷ ys else y ∷ placed before x ys

-- more of them, each at its place in turn
abbrev pub all_placed : {X : Type 0} → (X → X → Bool) → List X → List X → List X
all_placed before [] done = done
all_placed before (x ∷ xs) done = all_placed before xs (placed before x done)
