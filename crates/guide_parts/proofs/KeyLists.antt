-- The keys that had a section are one list.
use Rattle.std.proofs.Common.{◌≡◌, List, [], ◌∷◌, Bool, true, false, ◌||◌, refl, sym, ap, ap₂, ◌∙◌, subst}
use Rattle.std.specs.Cmp.{IsTotalOrder}
use Rattle.std.specs.declared.cmp.Ordering.{Ordering}
use Rattle.std.specs.declared.cmp.Ordering.TheVariants.{Less, Equal, Greater}
use Rattle.std.specs.Ordering.{is_eq, ordering_reverse}
use Rattle.std.specs.List.{AllByRecursion}
use Rattle.std.specs.List.Sorted.{IsStrictlySortedBy}
use Rattle.std.specs.Set.{is_member}
use Rattle.std.proofs.lemmas.Cmp.{nat_cmp_total, on_total, then_total}
use Rattle.section_codec.specs.declared.table.Key.{Key}
use Rattle.section_codec.specs.KeyOrder.{is_key, key_cmp}
use Rattle.section_codec.proofs.KeyOrderFacts.{is_key-same, is_key-itself, key_ties}
use Rattle.sub_collect.specs.Marks.{Taken}
use Rattle.sub_collect.specs.Parts.{AreKeysOver}

never : {A : Type 0} → true ≡ false → A
never e = absurd (let z : Prim.⊥ = cc in z)

pub keys_total : IsTotalOrder key_cmp
keys_total =
    then_total (on_total (λ (k : Key). k.pid) nat_cmp_total) (
    then_total (on_total (λ (k : Key). k.table) nat_cmp_total) (
    then_total (on_total (λ (k : Key). k.ext) nat_cmp_total) (
    then_total (on_total (λ (k : Key). k.stream) nat_cmp_total) (on_total (λ (k : Key). k.network) nat_cmp_total))))

abbrev pub member : List Key → Key → Bool
member ks k = is_member is_key ks k

-- a key is not among those above it
above_none : (k : Key) (ks : List Key) → AllByRecursion (λ y. key_cmp k y ≡ Less) ks → member ks k ≡ false
above_none k [] all = refl
above_none k (y ∷ ys) all = ap₂ (λ (a b : Bool). a || b) (key_ties k y ∙ ap is_eq all.0) (above_none k ys all.1)

-- nor is one below the first
pub below_none : (k y : Key) (ys : List Key) → key_cmp k y ≡ Less → AllByRecursion (λ z. key_cmp y z ≡ Less) ys → AllByRecursion (λ z. key_cmp k z ≡ Less) ys
below_none k y [] less all = tt
below_none k y (z ∷ zs) less all = (keys_total.trans k y z less all.0, below_none k y zs less all.1)

first_in : (k : Key) (ks : List Key) → member (k ∷ ks) k ≡ true
first_in k ks = ap (λ (b : Bool). b || member ks k) (is_key-itself k)

-- what follows two equal firsts has the same members
rest_in : (x : Key) (xs ys : List Key) → AllByRecursion (λ z. key_cmp x z ≡ Less) xs → AllByRecursion (λ z. key_cmp x z ≡ Less) ys
    → ((k : Key) → member (x ∷ xs) k ≡ member (x ∷ ys) k) → (k : Key) → member xs k ≡ member ys k
rest_in x xs ys up_xs up_ys same k = go (is_key k x) refl (same k)
  where
    go : (b : Bool) → is_key k x ≡ b → (b || member xs k) ≡ (b || member ys k) → member xs k ≡ member ys k
    go true e f =
        let is : k ≡ x = is_key-same k x e in
        ap (member xs) is ∙ above_none x xs up_xs ∙ sym (above_none x ys up_ys) ∙ ap (member ys) (sym is)
    go false e f = f

-- ascending keys with the same members are the same
pub same_keys : (xs ys : List Key) → IsStrictlySortedBy key_cmp xs → IsStrictlySortedBy key_cmp ys → ((k : Key) → member xs k ≡ member ys k) → xs ≡ ys
unfolding IsStrictlySortedBy
same_keys [] [] up_xs up_ys same = refl
same_keys [] (y ∷ ys) up_xs up_ys same = never (sym (same y ∙ first_in y ys))
same_keys (x ∷ xs) [] up_xs up_ys same = never (sym (first_in x xs) ∙ same x)
same_keys (x ∷ xs) (y ∷ ys) up_xs up_ys same = go (key_cmp x y) refl (same_keys xs ys up_xs.1 up_ys.1)
  where
    go : (o : Ordering) → key_cmp x y ≡ o → (((k : Key) → member xs k ≡ member ys k) → xs ≡ ys) → x ∷ xs ≡ y ∷ ys
    go Less e rest = never (sym (first_in x xs) ∙ same x ∙ ap₂ (λ (a b : Bool). a || b) (key_ties x y ∙ ap is_eq e) (above_none x ys (below_none x y ys e up_ys.0)))
    go Equal e rest =
        let is : x ≡ y = is_key-same x y (key_ties x y ∙ ap is_eq e) in
        let same_first : (k : Key) → member (x ∷ xs) k ≡ member (x ∷ ys) k = λ k. same k ∙ ap (λ (z : Key). member (z ∷ ys) k) (sym is) in
        let up : AllByRecursion (λ z. key_cmp x z ≡ Less) ys = subst (λ (w : Key). AllByRecursion (λ z. key_cmp w z ≡ Less) ys) (sym is) up_ys.0 in
        ap₂ (λ (z : Key) (zs : List Key). z ∷ zs) is (rest (rest_in x xs ys up_xs.0 up same_first))
    go Greater e rest =
        let less : key_cmp y x ≡ Less = keys_total.antisymm y x ∙ ap ordering_reverse e in
        never (sym (first_in y ys) ∙ sym (same y) ∙ ap₂ (λ (a b : Bool). a || b) (key_ties y x ∙ ap is_eq less) (above_none y xs (below_none y x xs less up_xs.0)))

pub one_list : (past : List Taken) (xs ys : List Key) → AreKeysOver past xs → AreKeysOver past ys → xs ≡ ys
one_list past xs ys a b = same_keys xs ys a.ascend b.ascend (λ k. a.each k ∙ sym (b.each k))
