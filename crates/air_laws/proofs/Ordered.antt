-- Some keys, put in their order, are the keys that they are known to be.
use Rattle.std.proofs.Common.{◌≡◌, ℕ, zero, suc, ◌<◌, ◌||◌, List, [], ◌∷◌, Bool, true, false, length, refl, sym, ap, ◌∙◌, arith}
use Rattle.std.specs.Prelude.{cond, filter, fold, slice_index_or}
use Rattle.std.specs.List.{AllByRecursion, Contains, list_any}
use Rattle.std.specs.List.Sorted.{IsStrictlySortedBy}
use Rattle.std.specs.Ordering.{is_eq, match_ordering}
use Rattle.std.specs.Cmp.{IsTotalOrder}
use Rattle.std.specs.BTreeSet.{insert_key}
use Rattle.std.specs.declared.cmp.Ordering.{Ordering}
use Rattle.std.specs.declared.cmp.Ordering.TheVariants.{Less, Equal, Greater}
use Rattle.si_lists.proofs.Lists.{all_map}
use Rattle.si_lists.proofs.Filters.{all_stay}

-- ---- tests of elements

pub or_true : (a b : Bool) → b ≡ true → (a || b) ≡ true
or_true true b e = refl
or_true false b e = e

or_false : (a : Bool) → (a || false) ≡ a
or_false true = refl
or_false false = refl

or_assoc : (a b c : Bool) → ((a || b) || c) ≡ (a || (b || c))
or_assoc true b c = refl
or_assoc false b c = refl

-- an element passes the test, so one does
pub any_passes : {X : Type 0} (test : X → Bool) (xs : List X) (x : X) → test x ≡ true → Contains xs x → list_any test xs ≡ true
any_passes test xs x passes there = at xs there.0 there.1 there.2
  where
    at : (ys : List _) (k : ℕ) → k < length ys → slice_index_or ys k x ≡ x → list_any test ys ≡ true
    at [] k lt e = absurd (let z : Prim.⊥ = omega (arith, lt) in z)
    at (y ∷ ys) zero lt e = ap (λ (b : Bool). b || list_any test ys) (ap test e ∙ passes)
    at (y ∷ ys) (suc k) lt e = or_true (test y) (list_any test ys) (at ys k (omega (arith, lt)) e)

none_passes : {X : Type 0} (test : X → Bool) (xs : List X) → AllByRecursion (λ (x : X). test x ≡ false) xs → list_any test xs ≡ false
none_passes test [] all = refl
none_passes test (x ∷ xs) all = ap (λ (b : Bool). b || list_any test xs) all.0 ∙ none_passes test xs all.1

same_stay : {X : Type 0} (p q : X → Bool) (xs : List X) → AllByRecursion (λ (x : X). p x ≡ q x) xs → filter p xs ≡ filter q xs
same_stay p q [] all = refl
same_stay {X} p q (x ∷ xs) all =
    ap (λ (b : Bool). cond b (x ∷ filter p xs) (filter p xs)) all.0
    ∙ ap (λ (l : List X). cond (q x) (x ∷ l) l) (same_stay p q xs all.1)

-- ---- keys that are put among others in their order

module _ {K : Type 0} (R : K → K → Ordering) (order : IsTotalOrder R) (same : (x y : K) → R x y ≡ Equal → x ≡ y) where
  abbrev pub is_tied : K → K → Bool
  is_tied x y = is_eq (R x y)

  -- a key below all others comes first
  put_first : (x : K) (ys : List K) → AllByRecursion (λ (y : K). R x y ≡ Less) ys → insert_key R ys x ≡ x ∷ ys
  put_first x [] all = refl
  put_first x (y ∷ ys) all = ap (λ (r : Ordering). match_ordering r (x ∷ y ∷ ys) (y ∷ ys) (y ∷ insert_key R ys x)) all.0

  below_filter : (p : K → Bool) (x : K) (ys : List K) → AllByRecursion (λ (y : K). R x y ≡ Less) ys → AllByRecursion (λ (y : K). R x y ≡ Less) (filter p ys)
  below_filter p x [] all = tt
  below_filter p x (y ∷ ys) all = go (p y) (below_filter p x ys all.1)
    where
      go : (b : Bool) → AllByRecursion (λ (z : K). R x z ≡ Less) (filter p ys) → AllByRecursion (λ (z : K). R x z ≡ Less) (cond b (y ∷ filter p ys) (filter p ys))
      go true rest = (all.0, rest)
      go false rest = rest

  -- a key that is one of some in their order, put among those of them that pass a test: it passes from then on
  put_among : (p : K → Bool) (x : K) (ks : List K) → IsStrictlySortedBy R ks → list_any (is_tied x) ks ≡ true
      → insert_key R (filter p ks) x ≡ filter (λ (k : K). p k || is_tied x k) ks
  unfolding IsStrictlySortedBy
  put_among p x [] up there = absurd (let no : false ≡ true = there in let z : Prim.⊥ = cc in z)
  put_among p x (k ∷ ks) up there =
      inserted (p k) ∙ step (p k) (R x k) refl (λ some. put_among p x ks up.1 some) there
      ∙ ap (λ (r : Ordering). cond (p k || is_eq r) (k ∷ filter more ks) (filter more ks)) refl
    where
      more : K → Bool
      more y = p y || is_tied x y

      inserted : (b : Bool) → insert_key R (cond b (k ∷ filter p ks) (filter p ks)) x
          ≡ cond b (match_ordering (R x k) (x ∷ k ∷ filter p ks) (k ∷ filter p ks) (k ∷ insert_key R (filter p ks) x)) (insert_key R (filter p ks) x)
      inserted true = refl
      inserted false = refl

      -- what is tied to the first is below all others
      below : R x k ≡ Equal → AllByRecursion (λ (y : K). R x y ≡ Less) ks
      below e = all_map (λ (y : K). R k y ≡ Less) (λ (y : K). R x y ≡ Less) (λ y less. order.congr x k y e ∙ less) ks up.0

      stays : R x k ≡ Equal → filter p ks ≡ filter more ks
      stays e =
          same_stay p more ks
          (all_map (λ (y : K). R x y ≡ Less) (λ (y : K). p y ≡ more y) (λ y less. sym (ap (λ (r : Ordering). p y || is_eq r) less ∙ or_false (p y))) ks (below e))

      none : R x k ≡ Less → list_any (is_tied x) ks ≡ false
      none e =
          none_passes (is_tied x) ks
          (all_map (λ (y : K). R k y ≡ Less) (λ (y : K). is_tied x y ≡ false) (λ y less. ap is_eq (order.trans x k y e less)) ks up.0)

      step : (b : Bool) (r : Ordering) → R x k ≡ r → (list_any (is_tied x) ks ≡ true → insert_key R (filter p ks) x ≡ filter more ks) → (is_eq r || list_any (is_tied x) ks) ≡ true
          → cond b (match_ordering r (x ∷ k ∷ filter p ks) (k ∷ filter p ks) (k ∷ insert_key R (filter p ks) x)) (insert_key R (filter p ks) x)
          ≡ cond (b || is_eq r) (k ∷ filter more ks) (filter more ks)
      step b Less e rest some = absurd (let no : false ≡ true = sym (none e) ∙ some in let z : Prim.⊥ = cc in z)
      step true Equal e rest some = ap (λ (l : List K). k ∷ l) (stays e)
      step false Equal e rest some =
          put_first x (filter p ks) (below_filter p x ks (below e)) ∙ ap (λ (y : K). y ∷ filter p ks) (same x k e) ∙ ap (λ (l : List K). k ∷ l) (stays e)
      step true Greater e rest some = ap (λ (l : List K). k ∷ l) (rest some)
      step false Greater e rest some = rest some

  -- so of several
  put_each : (p : K → Bool) (xs ks : List K) → IsStrictlySortedBy R ks → AllByRecursion (λ (x : K). list_any (is_tied x) ks ≡ true) xs
      → fold (insert_key R) (filter p ks) xs ≡ filter (λ (k : K). p k || list_any (λ (x : K). is_tied x k) xs) ks
  put_each p [] ks up all = same_stay p (λ (k : K). p k || false) ks (each ks)
    where
      each : (ys : List K) → AllByRecursion (λ (k : K). p k ≡ (p k || false)) ys
      each [] = tt
      each (y ∷ ys) = (sym (or_false (p y)), each ys)
  put_each p (x ∷ xs) ks up all =
      ap (λ (l : List K). fold (insert_key R) l xs) (put_among p x ks up all.0) ∙ put_each (λ (k : K). p k || is_tied x k) xs ks up all.1
      ∙ same_stay (λ (k : K). (p k || is_tied x k) || list_any (λ (y : K). is_tied y k) xs) (λ (k : K). p k || (is_tied x k || list_any (λ (y : K). is_tied y k) xs)) ks (each ks)
    where
      each : (ys : List K) → AllByRecursion (λ (k : K). ((p k || is_tied x k) || list_any (λ (y : K). is_tied y k) xs) ≡ (p k || (is_tied x k || list_any (λ (y : K). is_tied y k) xs))) ys
      each [] = tt
      each (y ∷ ys) = (or_assoc (p y) (is_tied x y) (list_any (λ (z : K). is_tied z y) xs), each ys)

  none_stay : (ks : List K) → filter (λ (k : K). false) ks ≡ []
  none_stay [] = refl
  none_stay (k ∷ ks) = none_stay ks

  -- Each of the keys is one of these, and each of these is one of the keys: so in their order they are these.
  pub put_are : (xs ks : List K) → IsStrictlySortedBy R ks → AllByRecursion (λ (x : K). list_any (is_tied x) ks ≡ true) xs
      → AllByRecursion (λ (k : K). list_any (λ (x : K). is_tied x k) xs ≡ true) ks → fold (insert_key R) [] xs ≡ ks
  put_are xs ks up all each =
      ap (λ (l : List K). fold (insert_key R) l xs) (sym (none_stay ks)) ∙ put_each (λ (k : K). false) xs ks up all
      ∙ all_stay (λ (k : K). list_any (λ (x : K). is_tied x k) xs) ks each
