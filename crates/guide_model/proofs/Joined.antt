-- Texts with a space between, one by one.
use Rattle.std.proofs.Common.{◌≡◌, ℕ, ◌≤◌, ◌++◌, ◌∷◌, [], List, length, take, sym, ap, ◌∙◌, append-nil, append_assoc}
use Rattle.std.specs.Prelude.{codes, flat_map, map}
use Rattle.std.specs.List.{join_with_byte}
use Rattle.std.proofs.lemmas.List.{take_all}

-- the texts are the first, and each other after a space
texts_join : {A : Type 0} (text : A → List ℕ) (x : A) (xs : List A) → text x ++ flat_map (λ y. codes " " ++ text y) xs ≡ join_with_byte 32 (map text (x ∷ xs))
texts_join text x [] = append-nil (text x)
texts_join text x (y ∷ xs) = ap (λ (l : List ℕ). text x ++ 32 ∷ l) (texts_join text y xs)

pub texts_whole : {A : Type 0} (text : A → List ℕ) (all rest : List A) (x : A) (n : ℕ) (before out : List ℕ) → all ≡ x ∷ rest → length rest ≤ n
    → out ≡ (before ++ text x) ++ flat_map (λ y. codes " " ++ text y) (take n rest) → out ≡ before ++ join_with_byte 32 (map text all)
texts_whole {A} text all rest x n before out is most e =
    e ∙ append_assoc before (text x) (flat_map (λ y. codes " " ++ text y) (take n rest))
    ∙ ap (λ (xs : List A). before ++ (text x ++ flat_map (λ y. codes " " ++ text y) xs)) (take_all n rest most)
    ∙ ap (λ (l : List ℕ). before ++ l) (texts_join text x rest ∙ ap (λ (xs : List A). join_with_byte 32 (map text xs)) (sym is))
