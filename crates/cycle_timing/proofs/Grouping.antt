-- Groups of sub-tables, and a section more.
use Rattle.std.proofs.Common.{◌≡◌, ℕ, zero, suc, ◌+◌, ◌-◌, ◌<◌, ◌≤◌, List, [], ◌∷◌, ◌++◌, Bool, true, false, Option, Some, None, length, map, refl, sym, ap, ap₂, ◌∙◌, subst, arith, append-nil}
use Rattle.std.specs.Prelude.{◌==◌, ◌||◌, not, cond, if◌then◌else◌, filter, option_map}
use Rattle.std.specs.Option.{option_or}
use Rattle.std.proofs.lemmas.Bool.{eqb-true, eq-eqb}
use Rattle.std.proofs.lemmas.List.{map_push, length-map}
use Rattle.std.proofs.lemmas.List.Elements.{filter-append}
use Rattle.section_codec.specs.Contents.{numbers_from}
use Rattle.air_model.specs.Cursor.{upto}
use Rattle.cycle_timing.specs.SubTables.{distinct, groups}
use Rattle.cycle_timing.specs.Turns.{grouped}
use Rattle.cycle_timing.proofs.Found.{found, found_push, found_within}

-- whether a number stands among others, and where it stands first
abbrev is_number : ℕ → ℕ → Bool
is_number k n = n == k

abbrev has : ℕ → List ℕ → Bool
has k [] = false
has k (n ∷ ns) = is_number k n || has k ns

abbrev pub place_in : List ℕ → ℕ → Option ℕ
place_in ns k = found is_number ns k

swapped : (n m : ℕ) (b : Bool) → (n == m) ≡ b → (m == n) ≡ b
swapped n m true e = eq-eqb m n (sym (eqb-true n m e))
swapped n m false e = go (m == n) refl
  where
    go : (b : Bool) → (m == n) ≡ b → (m == n) ≡ false
    go true f = let t : (n == m) ≡ true = eq-eqb n m (sym (eqb-true m n f)) in cc
    go false f = f

none_has : (ns : List ℕ) (k : ℕ) → place_in ns k ≡ None → has k ns ≡ false
none_has [] k e = refl
none_has (n ∷ ns) k e = go (n == k) (place_in ns k) (none_has ns k) e
  where
    go : (b : Bool) (o : Option ℕ) → (o ≡ None → has k ns ≡ false) → (if b then Some 0 else option_map suc o) ≡ None → (b || has k ns) ≡ false
    go true o h f = cc
    go false None h f = h refl
    go false (Some i) h f = cc

some_has : (ns : List ℕ) (k i : ℕ) → place_in ns k ≡ Some i → has k ns ≡ true
some_has [] k i e = cc
some_has (n ∷ ns) k i e = go (n == k) (place_in ns k) (some_has ns k) e
  where
    go : (b : Bool) (o : Option ℕ) → ((j : ℕ) → o ≡ Some j → has k ns ≡ true) → (if b then Some 0 else option_map suc o) ≡ Some i → (b || has k ns) ≡ true
    go true o h f = refl
    go false None h f = cc
    go false (Some j) h f = h j refl

-- ---- numbers, each once

abbrev others : ℕ → List ℕ → List ℕ
others n ns = filter (λ (m : ℕ). not (m == n)) ns

has_others : (k n : ℕ) (ns : List ℕ) → (n == k) ≡ false → has k (others n ns) ≡ has k ns
has_others k n [] e = refl
has_others k n (m ∷ ns) e = go (m == n) refl (has_others k n ns e)
  where
    go : (b : Bool) → (m == n) ≡ b → has k (others n ns) ≡ has k ns → has k (cond (not b) (m ∷ others n ns) (others n ns)) ≡ ((m == k) || has k ns)
    go true f h = h ∙ ap (λ (c : Bool). c || has k ns) (sym (ap (λ (j : ℕ). j == k) (eqb-true m n f) ∙ e))
    go false f h = ap (λ (c : Bool). (m == k) || c) h

has_distinct : (k : ℕ) (ns : List ℕ) → has k (distinct ns) ≡ has k ns
has_distinct k [] = refl
has_distinct k (n ∷ ns) = go (n == k) refl (has_distinct k ns)
  where
    go : (b : Bool) → (n == k) ≡ b → has k (distinct ns) ≡ has k ns → (b || has k (others n (distinct ns))) ≡ (b || has k ns)
    go true e h = refl
    go false e h = has_others k n (distinct ns) e ∙ h

abbrev pushed_if : Bool → List ℕ → ℕ → List ℕ
pushed_if b ns m = if b then ns else ns ++ m ∷ []

others_pushed : (n m : ℕ) (ns : List ℕ) → n ∷ others n (pushed_if (has m ns) ns m) ≡ pushed_if (has m (n ∷ others n ns)) (n ∷ others n ns) m
others_pushed n m ns = go (n == m) refl
  where
    split : others n (ns ++ m ∷ []) ≡ others n ns ++ others n (m ∷ [])
    split = filter-append (λ (j : ℕ). not (j == n)) ns (m ∷ [])

    same : (b : Bool) → (m == n) ≡ true → others n (pushed_if b ns m) ≡ others n ns
    same true e = refl
    same false e = split ∙ ap (λ (c : Bool). others n ns ++ cond (not c) (m ∷ []) []) e ∙ append-nil (others n ns)

    apart : (b : Bool) → (m == n) ≡ false → others n (pushed_if b ns m) ≡ pushed_if b (others n ns) m
    apart true e = refl
    apart false e = split ∙ ap (λ (c : Bool). others n ns ++ cond (not c) (m ∷ []) []) e

    push : (b : Bool) (l : List ℕ) → n ∷ pushed_if b l m ≡ pushed_if b (n ∷ l) m
    push true l = refl
    push false l = refl

    go : (b : Bool) → (n == m) ≡ b → n ∷ others n (pushed_if (has m ns) ns m) ≡ pushed_if (b || has m (others n ns)) (n ∷ others n ns) m
    go true e = ap (λ (l : List ℕ). n ∷ l) (same (has m ns) (swapped n m true e))
    go false e =
        ap (λ (l : List ℕ). n ∷ l) (apart (has m ns) (swapped n m false e))
        ∙ push (has m ns) (others n ns)
        ∙ ap (λ (b : Bool). pushed_if b (n ∷ others n ns) m) (sym (has_others m n ns e))

distinct_push : (ns : List ℕ) (m : ℕ) → distinct (ns ++ m ∷ []) ≡ pushed_if (has m (distinct ns)) (distinct ns) m
distinct_push [] m = refl
distinct_push (n ∷ ns) m = ap (λ (l : List ℕ). n ∷ others n l) (distinct_push ns m) ∙ others_pushed n m (distinct ns)

abbrev AllDiffer : List ℕ → Type 0
AllDiffer [] = Unit {0}
AllDiffer (n ∷ ns) = (has n ns ≡ false) × AllDiffer ns

lacks_filter : (p : ℕ → Bool) (k : ℕ) (ns : List ℕ) → has k ns ≡ false → has k (filter p ns) ≡ false
lacks_filter p k [] e = refl
lacks_filter p k (n ∷ ns) e = go (p n) (n == k) e (lacks_filter p k ns) refl
  where
    go : (b c : Bool) → (c || has k ns) ≡ false → (has k ns ≡ false → has k (filter p ns) ≡ false) → (n == k) ≡ c → has k (cond b (n ∷ filter p ns) (filter p ns)) ≡ false
    go b true f h d = cc
    go true false f h d = ap (λ (x : Bool). x || has k (filter p ns)) d ∙ h f
    go false false f h d = h f

differ_filter : (p : ℕ → Bool) (ns : List ℕ) → AllDiffer ns → AllDiffer (filter p ns)
differ_filter p [] h = tt
differ_filter p (n ∷ ns) h = go (p n) (differ_filter p ns h.1)
  where
    go : (b : Bool) → AllDiffer (filter p ns) → AllDiffer (cond b (n ∷ filter p ns) (filter p ns))
    go true r = (lacks_filter p n ns h.0, r)
    go false r = r

lacks_own : (n : ℕ) (ns : List ℕ) → has n (others n ns) ≡ false
lacks_own n [] = refl
lacks_own n (m ∷ ns) = go (m == n) refl (lacks_own n ns)
  where
    go : (b : Bool) → (m == n) ≡ b → has n (others n ns) ≡ false → has n (cond (not b) (m ∷ others n ns) (others n ns)) ≡ false
    go true e h = h
    go false e h = ap (λ (b : Bool). b || has n (others n ns)) e ∙ h

distinct_differ : (ns : List ℕ) → AllDiffer (distinct ns)
distinct_differ [] = tt
distinct_differ (n ∷ ns) = (lacks_own n (distinct ns), differ_filter (λ (m : ℕ). not (m == n)) (distinct ns) (distinct_differ ns))

-- ---- the sections of each number, and a section more

module _ (table : ℕ → ℕ) (xs : List ℕ) (x : ℕ) where
  abbrev of : ℕ → List ℕ
  of k = filter (λ (y : ℕ). table y == k) xs

  abbrev of_more : ℕ → List ℕ
  of_more k = filter (λ (y : ℕ). table y == k) (xs ++ x ∷ [])

  own : of_more (table x) ≡ of (table x) ++ x ∷ []
  own = filter-append (λ (y : ℕ). table y == table x) xs (x ∷ []) ∙ ap (λ (b : Bool). of (table x) ++ cond b (x ∷ []) []) (eq-eqb (table x) (table x) refl)

  other : (k : ℕ) → (k == table x) ≡ false → of_more k ≡ of k
  other k e = filter-append (λ (y : ℕ). table y == k) xs (x ∷ []) ∙ ap (λ (b : Bool). of k ++ cond b (x ∷ []) []) (swapped k (table x) false e) ∙ append-nil (of k)

  all_others : (ks : List ℕ) → has (table x) ks ≡ false → map of_more ks ≡ map of ks
  all_others [] e = refl
  all_others (k ∷ ks) e = go (k == table x) refl e (all_others ks)
    where
      go : (b : Bool) → (k == table x) ≡ b → (b || has (table x) ks) ≡ false → (has (table x) ks ≡ false → map of_more ks ≡ map of ks) → map of_more (k ∷ ks) ≡ map of (k ∷ ks)
      go true f h r = cc
      go false f h r = ap₂ (λ (a : List ℕ) (l : List (List ℕ)). a ∷ l) (other k f) (r h)

  at_place : (ks : List ℕ) (i : ℕ) → AllDiffer ks → place_in ks (table x) ≡ Some i → map of_more ks ≡ grouped (Some i) (map of ks) x
  at_place [] i d e = cc
  at_place (k ∷ ks) i d e = go (k == table x) refl (place_in ks (table x)) (at_place ks) e i
    where
      go : (b : Bool) → (k == table x) ≡ b → (o : Option ℕ) → ((j : ℕ) → AllDiffer ks → o ≡ Some j → map of_more ks ≡ grouped (Some j) (map of ks) x)
          → (if b then Some 0 else option_map suc o) ≡ Some i → (n : ℕ) → map of_more (k ∷ ks) ≡ grouped (Some i) (map of (k ∷ ks)) x
      go true f o h g n =
          let k_is = eqb-true k (table x) f in
          let zero_is : 0 ≡ i = cc in
          ap₂ (λ (a : List ℕ) (l : List (List ℕ)). a ∷ l) (ap of_more k_is ∙ own ∙ ap (λ (m : ℕ). of m ++ x ∷ []) (sym k_is))
          (all_others ks (subst (λ (m : ℕ). has m ks ≡ false) k_is d.0))
          ∙ ap (λ (m : ℕ). grouped (Some m) (map of (k ∷ ks)) x) zero_is
      go false f None h g n = cc
      go false f (Some j) h g n =
          let suc_is : suc j ≡ i = cc in
          ap₂ (λ (a : List ℕ) (l : List (List ℕ)). a ∷ l) (other k f) (h j d.1 refl)
          ∙ ap (λ (m : ℕ). grouped (Some m) (map of (k ∷ ks)) x) suc_is

none_of : (table : ℕ → ℕ) (k : ℕ) (xs : List ℕ) → has k (map table xs) ≡ false → filter (λ (y : ℕ). table y == k) xs ≡ []
none_of table k [] e = refl
none_of table k (x ∷ xs) e = go (table x == k) e (none_of table k xs)
  where
    go : (b : Bool) → (b || has k (map table xs)) ≡ false → (has k (map table xs) ≡ false → filter (λ (y : ℕ). table y == k) xs ≡ []) → cond b (x ∷ filter (λ (y : ℕ). table y == k) xs) (filter (λ (y : ℕ). table y == k) xs) ≡ []
    go true f h = cc
    go false f h = h f

abbrev pub numbers_of : (ℕ → ℕ) → List ℕ → List ℕ
numbers_of table xs = distinct (map table xs)

numbers_push : (table : ℕ → ℕ) (xs : List ℕ) (x : ℕ) → numbers_of table (xs ++ x ∷ []) ≡ pushed_if (has (table x) (numbers_of table xs)) (numbers_of table xs) (table x)
numbers_push table xs x = ap distinct (map_push table xs x) ∙ distinct_push (map table xs) (table x)

pub groups_push : (table : ℕ → ℕ) (xs : List ℕ) (x : ℕ) → groups table (xs ++ x ∷ []) ≡ grouped (place_in (numbers_of table xs) (table x)) (groups table xs) x
groups_push table xs x = go (place_in (numbers_of table xs) (table x)) refl
  where
    ks : List ℕ
    ks = numbers_of table xs

    t : ℕ
    t = table x

    go : (o : Option ℕ) → place_in ks t ≡ o → groups table (xs ++ x ∷ []) ≡ grouped o (groups table xs) x
    go (Some i) e =
        ap (map (of_more table xs x)) (numbers_push table xs x ∙ ap (λ (b : Bool). pushed_if b ks t) (some_has ks t i e))
        ∙ at_place table xs x ks i (distinct_differ (map table xs)) e
    go None e =
        let lacks = none_has ks t e in
        ap (map (of_more table xs x)) (numbers_push table xs x ∙ ap (λ (b : Bool). pushed_if b ks t) lacks)
        ∙ map_push (of_more table xs x) ks t
        ∙ ap₂ (λ (l : List (List ℕ)) (a : List ℕ). l ++ a ∷ []) (all_others table xs x ks lacks)
        (own table xs x ∙ ap (λ (l : List ℕ). l ++ x ∷ []) (none_of table t xs (sym (has_distinct t (map table xs)) ∙ lacks)))

pub places_push : (table : ℕ → ℕ) (xs : List ℕ) (x k : ℕ) → place_in (numbers_of table (xs ++ x ∷ [])) k ≡ option_or (place_in (numbers_of table xs) k) (if table x == k then Some (length (groups table xs)) else None)
places_push table xs x k = go (place_in (numbers_of table xs) (table x)) refl
  where
    ks : List ℕ
    ks = numbers_of table xs

    size : length (groups table xs) ≡ length ks
    size = length-map ks (λ (j : ℕ). filter (λ (y : ℕ). table y == j) xs)

    stay : (b : Bool) (o : Option ℕ) (n : ℕ) → (b ≡ true → (i : ℕ) × (o ≡ Some i)) → o ≡ option_or o (if b then Some n else None)
    stay false None n h = refl
    stay true None n h = let w = h refl in cc
    stay b (Some i) n h = refl

    go : (o : Option ℕ) → place_in ks (table x) ≡ o → place_in (numbers_of table (xs ++ x ∷ [])) k ≡ option_or (place_in ks k) (if table x == k then Some (length (groups table xs)) else None)
    go (Some i) e =
        ap (λ (l : List ℕ). place_in l k) (numbers_push table xs x ∙ ap (λ (b : Bool). pushed_if b ks (table x)) (some_has ks (table x) i e))
        ∙ stay (table x == k) (place_in ks k) (length (groups table xs)) (λ f. (i, ap (place_in ks) (sym (eqb-true (table x) k f)) ∙ e))
    go None e =
        ap (λ (l : List ℕ). place_in l k) (numbers_push table xs x ∙ ap (λ (b : Bool). pushed_if b ks (table x)) (none_has ks (table x) e))
        ∙ found_push is_number ks (table x) k
        ∙ ap (λ (n : ℕ). option_or (place_in ks k) (if table x == k then Some n else None)) (sym size)

pub place_groups : (table : ℕ → ℕ) (xs : List ℕ) (k i : ℕ) → place_in (numbers_of table xs) k ≡ Some i → i < length (groups table xs)
place_groups table xs k i e =
    subst (λ (n : ℕ). i < n) (sym (length-map (numbers_of table xs) (λ (j : ℕ). filter (λ (y : ℕ). table y == j) xs))) (found_within is_number (numbers_of table xs) k i e)

-- ---- numbers up to one more

pub numbers_more : (n k : ℕ) → numbers_from n (suc k) ≡ numbers_from n k ++ (n + k) ∷ []
numbers_more n zero = ap (λ (m : ℕ). m ∷ []) (let e : n ≡ n + 0 = omega arith in e)
numbers_more n (suc k) = ap (λ (l : List ℕ). n ∷ l) (numbers_more (1 + n) k ∙ ap (λ (m : ℕ). numbers_from (1 + n) k ++ m ∷ []) (let e : 1 + n + k ≡ n + suc k = omega arith in e))

pub upto_push : (a b : ℕ) → a ≤ b → upto a (b + 1) ≡ upto a b ++ b ∷ []
upto_push a b l =
    ap (numbers_from a) (let e : b + 1 - a ≡ suc (b - a) = omega arith in e) ∙ numbers_more a (b - a)
    ∙ ap (λ (m : ℕ). upto a b ++ m ∷ []) (let e : a + (b - a) ≡ b = omega arith in e)
