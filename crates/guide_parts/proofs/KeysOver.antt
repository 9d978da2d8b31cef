-- The keys that had a section, put in order one by one.
use Rattle.std.proofs.Common.{◌≡◌, List, [], ◌∷◌, Bool, true, false, ◌||◌, refl, sym, ap, ◌∙◌}
use Rattle.std.specs.declared.cmp.Ordering.{Ordering}
use Rattle.std.specs.declared.cmp.Ordering.TheVariants.{Less, Equal, Greater}
use Rattle.std.specs.Ordering.{is_eq, ordering_reverse, match_ordering}
use Rattle.std.specs.List.{AllByRecursion, fold}
use Rattle.std.specs.List.Sorted.{IsStrictlySortedBy}
use Rattle.std.specs.BTreeSet.{insert_key}
use Rattle.section_codec.specs.declared.table.Key.{Key}
use Rattle.section_codec.specs.KeyOrder.{is_key, key_cmp}
use Rattle.section_codec.proofs.KeyOrderFacts.{is_key-same, key_ties}
use Rattle.sub_collect.specs.KeyCounts.{section_keys}
use Rattle.sub_collect.specs.Marks.{Taken, sections_taken}
use Rattle.sub_collect.specs.Parts.{AreKeysOver}
use Rattle.guide_parts.specs.Parts.{keys_over}
use Rattle.guide_parts.proofs.KeyLists.{keys_total, member, below_none}

-- what holds of all keys and of one more holds with it
all_put : (P : Key → Type 0) (ks : List Key) (k : Key) → AllByRecursion P ks → P k → AllByRecursion P (insert_key key_cmp ks k)
all_put P [] k all p = (p, tt)
all_put P (x ∷ xs) k all p = go (key_cmp k x) (all_put P xs k all.1 p)
  where
    go : (o : Ordering) → AllByRecursion P (insert_key key_cmp xs k) → AllByRecursion P (match_ordering o (k ∷ x ∷ xs) (x ∷ xs) (x ∷ insert_key key_cmp xs k))
    go Less rest = (p, all)
    go Equal rest = all
    go Greater rest = (all.0, rest)

sorted_put : (ks : List Key) (k : Key) → IsStrictlySortedBy key_cmp ks → IsStrictlySortedBy key_cmp (insert_key key_cmp ks k)
unfolding IsStrictlySortedBy
sorted_put [] k up = (tt, tt)
sorted_put (x ∷ xs) k up = go (key_cmp k x) refl (sorted_put xs k up.1)
  where
    go : (o : Ordering) → key_cmp k x ≡ o → IsStrictlySortedBy key_cmp (insert_key key_cmp xs k) → IsStrictlySortedBy key_cmp (match_ordering o (k ∷ x ∷ xs) (x ∷ xs) (x ∷ insert_key key_cmp xs k))
    go Less e rest = ((e, below_none k x xs e up.0), up)
    go Equal e rest = up
    go Greater e rest = (all_put (λ z. key_cmp x z ≡ Less) xs k up.0 (keys_total.antisymm x k ∙ ap ordering_reverse e), rest)

or_twice : (a b : Bool) → (a || b) ≡ (a || (a || b))
or_twice true b = refl
or_twice false b = refl

or_swap : (a b c : Bool) → (a || (b || c)) ≡ (b || (a || c))
or_swap true true c = refl
or_swap true false c = refl
or_swap false true c = refl
or_swap false false c = refl

or_assoc : (a b c : Bool) → ((a || b) || c) ≡ (b || (a || c))
or_assoc true true c = refl
or_assoc true false c = refl
or_assoc false true c = refl
or_assoc false false c = refl

member_put : (ks : List Key) (k q : Key) → member (insert_key key_cmp ks k) q ≡ (is_key q k || member ks q)
member_put [] k q = refl
member_put (x ∷ xs) k q = go (key_cmp k x) refl (member_put xs k q)
  where
    go : (o : Ordering) → key_cmp k x ≡ o → member (insert_key key_cmp xs k) q ≡ (is_key q k || member xs q)
        → member (match_ordering o (k ∷ x ∷ xs) (x ∷ xs) (x ∷ insert_key key_cmp xs k)) q ≡ (is_key q k || member (x ∷ xs) q)
    go Less e rest = refl
    go Equal e rest =
        or_twice (is_key q x) (member xs q)
        ∙ ap (λ (z : Key). is_key q z || member (x ∷ xs) q) (sym (is_key-same k x (key_ties k x ∙ ap is_eq e)))
    go Greater e rest = ap (λ (b : Bool). is_key q x || b) rest ∙ or_swap (is_key q x) (is_key q k) (member xs q)

sorted_all : (done ks : List Key) → IsStrictlySortedBy key_cmp done → IsStrictlySortedBy key_cmp (fold (insert_key key_cmp) done ks)
sorted_all done [] up = up
sorted_all done (k ∷ ks) up = sorted_all (insert_key key_cmp done k) ks (sorted_put done k up)

member_all : (done ks : List Key) (q : Key) → member (fold (insert_key key_cmp) done ks) q ≡ (member done q || member ks q)
member_all done [] q = or_none (member done q)
  where
    or_none : (b : Bool) → b ≡ (b || false)
    or_none true = refl
    or_none false = refl
member_all done (k ∷ ks) q =
    member_all (insert_key key_cmp done k) ks q
    ∙ ap (λ (b : Bool). b || member ks q) (member_put done k q)
    ∙ or_assoc (is_key q k) (member done q) (member ks q)

none_sorted : IsStrictlySortedBy key_cmp []
unfolding IsStrictlySortedBy
none_sorted = tt

pub keys_are_over : (taken : List Taken) → AreKeysOver taken (keys_over taken)
keys_are_over taken = record {
  ascend = sorted_all [] (section_keys (sections_taken taken)) none_sorted;
  each = λ q. member_all [] (section_keys (sections_taken taken)) q;
}
