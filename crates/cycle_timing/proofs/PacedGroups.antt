-- Sections by their sub-tables: each stands in one group.
use Rattle.std.proofs.Common.{◌≡◌, ℕ, zero, suc, ◌≤◌, List, [], ◌∷◌, ◌++◌, Bool, true, false, length, map, refl, sym, ap, ◌∙◌, subst, arith}
use Rattle.std.specs.Prelude.{◌==◌, not, cond, filter, flat_map}
use Rattle.std.specs.List.{AllByRecursion, Contains}
use Rattle.std.proofs.lemmas.Bool.{eqb-true, eq-eqb}
use Rattle.std.proofs.lemmas.List.Elements.{filter-append, Contains-append_right}
use Rattle.si_lists.proofs.Lists.{all_append, all_map}
use Rattle.air_model.proofs.Elements.{elements, of_element, first_of, rest_of, around, mapped, joined}
use Rattle.air_timing.specs.Spreading.{firsts, rests, spread, AllOf, NoneOf, AreGroups, AreShort}
use Rattle.air_timing.proofs.Spreading.{spread_keeps_order}
use Rattle.cycle_timing.specs.SubTables.{distinct, groups}

-- ---- filters

pub all_filter : {X : Type 0} (P : X → Type 0) (p : X → Bool) (xs : List X) → AllByRecursion P xs → AllByRecursion P (filter p xs)
all_filter P p [] h = tt
all_filter P p (x ∷ xs) h = go (p x) (all_filter P p xs h.1)
  where
    go : (b : Bool) → AllByRecursion P (filter p xs) → AllByRecursion P (cond b (x ∷ filter p xs) (filter p xs))
    go true r = (h.0, r)
    go false r = r

pub all_pass : {X : Type 0} (p : X → Bool) (xs : List X) → AllByRecursion (λ (x : X). p x ≡ true) (filter p xs)
all_pass p [] = tt
all_pass p (x ∷ xs) = go (p x) refl (all_pass p xs)
  where
    go : (b : Bool) → p x ≡ b → AllByRecursion (λ y. p y ≡ true) (filter p xs) → AllByRecursion (λ y. p y ≡ true) (cond b (x ∷ filter p xs) (filter p xs))
    go true e r = (e, r)
    go false e r = r

pub in_filter : {X : Type 0} (p : X → Bool) (xs : List X) (x : X) → Contains xs x → p x ≡ true → Contains (filter p xs) x
in_filter p xs x has pass =
    let s = around xs x has in
    let both : filter p xs ≡ filter p s.0 ++ x ∷ filter p s.1 =
    ap (filter p) s.2 ∙ filter-append p s.0 (x ∷ s.1) ∙ ap (λ (b : Bool). filter p s.0 ++ cond b (x ∷ filter p s.1) (filter p s.1)) pass in
    subst (λ l. Contains l x) (sym both) (Contains-append_right (filter p s.0) (x ∷ filter p s.1) x (first_of x (filter p s.1)))

pub of_filter : {X : Type 0} (p : X → Bool) (xs : List X) (x : X) → Contains (filter p xs) x → Contains xs x
of_filter p xs x has = of_element (Contains xs) (filter p xs) x (all_filter (Contains xs) p xs (elements xs)) has

pub short_filter : {X : Type 0} (p : X → Bool) (xs : List X) → length (filter p xs) ≤ length xs
short_filter p [] = omega arith
short_filter p (x ∷ xs) = go (p x) (short_filter p xs)
  where
    go : (b : Bool) → length (filter p xs) ≤ length xs → length (cond b (x ∷ filter p xs) (filter p xs)) ≤ suc (length xs)
    go true r = omega arith
    go false r = omega arith

-- ---- numbers, each once

abbrev IsNone : ℕ → List ℕ → Type 0
IsNone n ns = AllByRecursion (λ (m : ℕ). m ≡ n → Prim.⊥) ns

abbrev AllDiffer : List ℕ → Type 0
AllDiffer [] = Unit {0}
AllDiffer (n ∷ ns) = IsNone n ns × AllDiffer ns

differ_filter : (p : ℕ → Bool) (ns : List ℕ) → AllDiffer ns → AllDiffer (filter p ns)
differ_filter p [] h = tt
differ_filter p (n ∷ ns) h = go (p n) (differ_filter p ns h.1)
  where
    go : (b : Bool) → AllDiffer (filter p ns) → AllDiffer (cond b (n ∷ filter p ns) (filter p ns))
    go true r = (all_filter (λ (m : ℕ). m ≡ n → Prim.⊥) p ns h.0, r)
    go false r = r

left_out : (n : ℕ) (ns : List ℕ) → IsNone n (filter (λ (m : ℕ). not (m == n)) ns)
left_out n ns = all_map (λ (m : ℕ). not (m == n) ≡ true) (λ (m : ℕ). m ≡ n → Prim.⊥) other (filter (λ (m : ℕ). not (m == n)) ns) (all_pass (λ (m : ℕ). not (m == n)) ns)
  where
    other : (m : ℕ) → not (m == n) ≡ true → m ≡ n → Prim.⊥
    other m e same = let t : (m == n) ≡ true = eq-eqb m n same in let f : not true ≡ true = ap not (sym t) ∙ e in cc

distinct_differ : (ns : List ℕ) → AllDiffer (distinct ns)
distinct_differ [] = tt
distinct_differ (n ∷ ns) = (left_out n (distinct ns), differ_filter (λ (m : ℕ). not (m == n)) (distinct ns) (distinct_differ ns))

in_distinct : (ns : List ℕ) → AllByRecursion (Contains (distinct ns)) ns
in_distinct [] = tt
in_distinct (n ∷ ns) = (first_of n others, all_map (Contains (distinct ns)) (Contains (distinct (n ∷ ns))) more ns (in_distinct ns))
  where
    others : List ℕ
    others = filter (λ (m : ℕ). not (m == n)) (distinct ns)

    more : (m : ℕ) → Contains (distinct ns) m → Contains (n ∷ others) m
    more m has = go (m == n) refl
      where
        go : (b : Bool) → (m == n) ≡ b → Contains (n ∷ others) m
        go true e = subst (Contains (n ∷ others)) (sym (eqb-true m n e)) (first_of n others)
        go false e = rest_of n others m (in_filter (λ (k : ℕ). not (k == n)) (distinct ns) m has (ap not e))

-- ---- groups

abbrev of : (ℕ → ℕ) → ℕ → ℕ → Bool
of table k x = table x == k

abbrev groups_by : (ℕ → ℕ) → List ℕ → List ℕ → List (List ℕ)
groups_by table xs ks = map (λ (k : ℕ). filter (of table k) xs) ks

own : (table : ℕ → ℕ) (k : ℕ) (xs : List ℕ) → AllOf table k (filter (of table k) xs)
own table k xs = all_map (λ (x : ℕ). of table k x ≡ true) (λ (x : ℕ). table x ≡ k) (λ x e. eqb-true (table x) k e) (filter (of table k) xs) (all_pass (of table k) xs)

others_none : (table : ℕ → ℕ) (k : ℕ) (xs ks : List ℕ) → IsNone k ks → AllByRecursion (NoneOf table k) (groups_by table xs ks)
others_none table k xs [] h = tt
others_none table k xs (j ∷ ks) h =
    (all_map (λ (x : ℕ). table x ≡ j) (λ (x : ℕ). table x ≡ k → Prim.⊥) (λ x e same. h.0 (sym e ∙ same)) (filter (of table j) xs) (own table j xs), others_none table k xs ks h.1)

are_groups_by : (table : ℕ → ℕ) (xs ks : List ℕ) → AllDiffer ks → AreGroups table (groups_by table xs ks)
are_groups_by table xs [] h = tt
are_groups_by table xs (k ∷ ks) h = ((k, own table k xs, others_none table k xs ks h.0), are_groups_by table xs ks h.1)

pub are_groups : (table : ℕ → ℕ) (xs : List ℕ) → AreGroups table (groups table xs)
are_groups table xs = are_groups_by table xs (distinct (map table xs)) (distinct_differ (map table xs))

-- the group of a section
pub own_group : (table : ℕ → ℕ) (xs : List ℕ) (x : ℕ) → Contains xs x → Contains (groups table xs) (filter (of table (table x)) xs)
own_group table xs x has =
    mapped (λ (k : ℕ). filter (of table k) xs) (distinct (map table xs)) (table x)
    (of_element (Contains (distinct (map table xs))) (map table xs) (table x) (in_distinct (map table xs)) (mapped table xs x has))

pub in_own : (table : ℕ → ℕ) (xs : List ℕ) (x : ℕ) → Contains xs x → Contains (filter (of table (table x)) xs) x
in_own table xs x has = in_filter (of table (table x)) xs x has (eq-eqb (table x) (table x) refl)

-- what holds of all sections holds in each group
pub all_groups : (P : ℕ → Type 0) (table : ℕ → ℕ) (xs : List ℕ) → AllByRecursion P xs → AllByRecursion (AllByRecursion P) (groups table xs)
all_groups P table xs all = go (distinct (map table xs))
  where
    go : (ks : List ℕ) → AllByRecursion (AllByRecursion P) (groups_by table xs ks)
    go [] = tt
    go (k ∷ ks) = (all_filter P (of table k) xs all, go ks)

pub short_groups : (table : ℕ → ℕ) (xs : List ℕ) → AreShort (length xs) (groups table xs)
short_groups table xs = go (distinct (map table xs))
  where
    go : (ks : List ℕ) → AreShort (length xs) (groups_by table xs ks)
    go [] = tt
    go (k ∷ ks) = (short_filter (of table k) xs, go ks)

-- ---- in turns

-- each section has a turn
pub in_spread : (table : ℕ → ℕ) (xs : List ℕ) (x : ℕ) → Contains xs x → Contains (spread (length xs) (groups table xs)) x
in_spread table xs x has =
    let k = table x in
    let gs = groups table xs in
    let flat : List ℕ = flat_map (λ (group : List ℕ). group) gs in
    let here : Contains flat x = joined (λ (group : List ℕ). group) gs (filter (of table k) xs) x (own_group table xs x has) (in_own table xs x has) in
    let same = spread_keeps_order table gs (are_groups table xs) (length xs) (short_groups table xs) k in
    of_filter (of table k) (spread (length xs) gs) x (subst (λ l. Contains l x) (sym same) (in_filter (of table k) flat x here (eq-eqb k k refl)))

-- and nothing else has one
all_firsts : (P : ℕ → Type 0) (gs : List (List ℕ)) → AllByRecursion (AllByRecursion P) gs → AllByRecursion P (firsts gs)
all_firsts P [] h = tt
all_firsts P ([] ∷ gs) h = all_firsts P gs h.1
all_firsts P ((x ∷ xs) ∷ gs) h = (h.0.0, all_firsts P gs h.1)

all_rests : (P : ℕ → Type 0) (gs : List (List ℕ)) → AllByRecursion (AllByRecursion P) gs → AllByRecursion (AllByRecursion P) (rests gs)
all_rests P [] h = tt
all_rests P ([] ∷ gs) h = (tt, all_rests P gs h.1)
all_rests P ((x ∷ xs) ∷ gs) h = (h.0.1, all_rests P gs h.1)

pub all_spread : (P : ℕ → Type 0) (n : ℕ) (gs : List (List ℕ)) → AllByRecursion (AllByRecursion P) gs → AllByRecursion P (spread n gs)
all_spread P zero gs h = tt
all_spread P (suc n) gs h = all_append P (firsts gs) (spread n (rests gs)) (all_firsts P gs h) (all_spread P n (rests gs) (all_rests P gs h))
