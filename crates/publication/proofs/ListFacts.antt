-- Lists that grow by one element behind others.
use Rattle.std.proofs.Common.{◌≡◌, ℕ, ◌+◌, ◌<◌, List, [], ◌∷◌, ◌++◌, length, map, take, flat_map, sym, ap, ◌∙◌, append_assoc, append-nil}
use Rattle.std.specs.Prelude.{Some, slice_get}
use Rattle.std.proofs.lemmas.Grind.{flat_map-append}
use Rattle.std.proofs.lemmas.List.{map-append, take_more}
use Rattle.std.proofs.lemmas.Option.{get_or_from_slice_get}

pub map_behind : {X Y : Type 0} (f : X → Y) (xs : List X) (i : ℕ) (x : X) → i < length xs → slice_get xs i ≡ Some x
    → (front list new : List Y) → list ≡ front ++ map f (take i xs) → new ≡ list ++ f x ∷ [] → new ≡ front ++ map f (take (i + 1) xs)
map_behind f xs i x lt at front list new so_far is =
    let next : take (i + 1) xs ≡ take i xs ++ x ∷ [] =
    take_more xs i x lt ∙ ap (λ y. take i xs ++ y ∷ []) (get_or_from_slice_get xs i x x at) in
    is ∙ ap (λ l. l ++ f x ∷ []) so_far ∙ append_assoc front (map f (take i xs)) (f x ∷ [])
    ∙ ap (λ l. front ++ l) (sym (map-append f (take i xs) (x ∷ [])) ∙ ap (map f) (sym next))

pub flat_behind : {X Y : Type 0} (f : X → List Y) (xs : List X) (i : ℕ) (x : X) → i < length xs → slice_get xs i ≡ Some x
    → (front list new : List Y) → list ≡ front ++ flat_map f (take i xs) → new ≡ list ++ f x → new ≡ front ++ flat_map f (take (i + 1) xs)
flat_behind f xs i x lt at front list new so_far is =
    let next : take (i + 1) xs ≡ take i xs ++ x ∷ [] =
    take_more xs i x lt ∙ ap (λ y. take i xs ++ y ∷ []) (get_or_from_slice_get xs i x x at) in
    is ∙ ap (λ l. l ++ f x) so_far ∙ append_assoc front (flat_map f (take i xs)) (f x)
    ∙ ap (λ l. front ++ l) (ap (λ l. flat_map f (take i xs) ++ l) (sym (append-nil (f x))) ∙ sym (flat_map-append f (take i xs) (x ∷ [])) ∙ ap (flat_map f) (sym next))
