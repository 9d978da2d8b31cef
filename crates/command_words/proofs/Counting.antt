-- Counting the texts of words.
use Rattle.std.proofs.Common.{◌≡◌, refl, ◌+◌, List, [], ◌∷◌, map, Bool, fold}
use Rattle.std.specs.Prelude.{count_by, cond}

fold_texts : {X Y B : Type 0} (f : B → Y → B) (text : X → Y) (b : B) (xs : List X) → fold (λ c x. f c (text x)) b xs ≡ fold f b (map text xs)
fold_texts f text b [] = refl
fold_texts f text b (x ∷ xs) = fold_texts f text (f b (text x)) xs

-- as many of these have texts that pass as their texts do
pub count_texts : {X Y : Type 0} (p : Y → Bool) (text : X → Y) (xs : List X) → count_by (λ x. p (text x)) xs ≡ count_by p (map text xs)
count_texts p text xs = fold_texts (λ n y. n + cond (p y) 1 0) text 0 xs
