-- Lists that grow by one element, and answers.
use Rattle.std.proofs.Common.{◌≡◌, ℕ, ◌+◌, ◌-◌, ◌<◌, ◌≤◌, List, [], ◌∷◌, ◌++◌, length, map, take, flat_map, sym, ap, ◌∙◌, subst, arith, append_assoc, append-nil}
use Rattle.std.specs.Prelude.{Some, slice_get}
use Rattle.std.specs.List.{AllByRecursion, range_with_len}
use Rattle.std.proofs.lemmas.Grind.{flat_map-append}
use Rattle.std.proofs.lemmas.List.{map-append, take_more}
use Rattle.std.proofs.lemmas.List.FromFn.{map-range_with_len_more}
use Rattle.std.proofs.lemmas.Option.{get_or_from_slice_get}
use Rattle.si_lists.proofs.Lists.{all_append}

pub range_more : {X : Type 0} (f : ℕ → X) (from n : ℕ) (x : X) (first list new : List X) → from ≤ n → list ≡ first ++ map f (range_with_len from (n - from)) → new ≡ list ++ x ∷ [] → x ≡ f n
    → new ≡ first ++ map f (range_with_len from (n + 1 - from))
range_more f from n x first list new le so_far is here =
    is ∙ ap (λ l. l ++ x ∷ []) so_far ∙ append_assoc first (map f (range_with_len from (n - from))) (x ∷ [])
    ∙ ap (λ l. first ++ l) (ap (λ y. map f (range_with_len from (n - from)) ++ y ∷ []) here ∙ sym (map-range_with_len_more f from (n - from) n (omega (arith, le))))
    ∙ ap (λ k. first ++ map f (range_with_len from k)) (let s : n - from + 1 ≡ n + 1 - from = omega (arith, le) in s)

-- one element more
take_next : {X : Type 0} (xs : List X) (i : ℕ) (x : X) → i < length xs → slice_get xs i ≡ Some x → take (i + 1) xs ≡ take i xs ++ x ∷ []
take_next xs i x lt at = take_more xs i x lt ∙ ap (λ y. take i xs ++ y ∷ []) (get_or_from_slice_get xs i x x at)

module _ {X : Type 0} (xs : List X) (i : ℕ) (x : X) (lt : i < length xs) (at : slice_get xs i ≡ Some x) where
  pub map_next : {Y : Type 0} (f : X → Y) (first : Y) (list new : List Y) → list ≡ first ∷ map f (take i xs) → new ≡ list ++ f x ∷ [] → new ≡ first ∷ map f (take (i + 1) xs)
  map_next f first list new so_far is =
      is ∙ ap (λ l. l ++ f x ∷ []) so_far ∙ ap (λ l. first ∷ l) (sym (map-append f (take i xs) (x ∷ []))) ∙ ap (λ l. first ∷ map f l) (sym (take_next xs i x lt at))

  pub flat_next : {Y : Type 0} (f : X → List Y) (list new : List Y) → list ≡ flat_map f (take i xs) → new ≡ list ++ f x → new ≡ flat_map f (take (i + 1) xs)
  flat_next f list new so_far is =
      is ∙ ap (λ l. l ++ f x) so_far ∙ ap (λ l. flat_map f (take i xs) ++ l) (sym (append-nil (f x))) ∙ sym (flat_map-append f (take i xs) (x ∷ []))
      ∙ ap (flat_map f) (sym (take_next xs i x lt at))

  pub all_next : (P : X → Type 0) → AllByRecursion P (take i xs) → P x → AllByRecursion P (take (i + 1) xs)
  all_next P so_far p = subst (AllByRecursion P) (sym (take_next xs i x lt at)) (all_append P (take i xs) (x ∷ []) so_far (p, tt))
