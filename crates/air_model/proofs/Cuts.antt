-- What cutting a list from its front gives.
use Rattle.std.proofs.Common.{◌≡◌, ℕ, ◌-◌, ◌<◌, ◌≤◌, List, [], ◌∷◌, ◌++◌, Bool, true, false, refl, sym, ap, ◌∙◌, arith, append-nil}
use Rattle.std.specs.Prelude.{if◌then◌else◌, nat_le}
use Rattle.std.proofs.lemmas.Bool.{le-leb, lt-leb, leb-true, leb-false}
use Rattle.air_model.specs.Cutting.{packets_in, in_front, cut_from, cut, joined, IsPart, AreParts, IsCut, CutsAreUnique}

-- ---- the parts joined are the list

joined-in_front : (x : ℕ) (parts : List (List ℕ)) → joined (in_front x parts) ≡ x ∷ joined parts
joined-in_front x [] = refl
joined-in_front x (c ∷ parts) = refl

pub joined-cut_from : (size : ℕ → ℕ) (least wanted : ℕ) (xs : List ℕ) → joined (cut_from size least wanted xs) ≡ xs
joined-cut_from size least wanted [] = refl
joined-cut_from size least wanted (x ∷ xs) = go (nat_le wanted (size x)) (joined-cut_from size least least xs) (joined-cut_from size least (wanted - size x) xs)
  where
    go : (b : Bool) → joined (cut_from size least least xs) ≡ xs → joined (cut_from size least (wanted - size x) xs) ≡ xs →
        joined (if b then (x ∷ []) ∷ cut_from size least least xs else in_front x (cut_from size least (wanted - size x) xs)) ≡ x ∷ xs
    go true e f = ap (λ (t : List ℕ). x ∷ t) e
    go false e f = joined-in_front x (cut_from size least (wanted - size x) xs) ∙ ap (λ (t : List ℕ). x ∷ t) f

-- ---- each part takes sections until they are enough

in_front-are : (size : ℕ → ℕ) (least wanted x : ℕ) (parts : List (List ℕ)) → size x < wanted → AreParts size least (wanted - size x) parts → AreParts size least wanted (in_front x parts)
in_front-are size least wanted x [] l h = (record { front = []; last = x; are = refl; below = omega arith }, tt)
in_front-are size least wanted x (c ∷ []) l h =
    let p = h.0 in
    let b = p.below in
    (record { front = x ∷ p.front; last = p.last; are = ap (λ (t : List ℕ). x ∷ t) p.are; below = omega arith }, tt)
in_front-are size least wanted x (c ∷ d ∷ parts) l h =
    let p = h.0 in
    let b = p.below in
    let f = h.1 in
    (record { front = x ∷ p.front; last = p.last; are = ap (λ (t : List ℕ). x ∷ t) p.are; below = omega arith }, omega arith, h.2)

are_parts : (size : ℕ → ℕ) (least wanted : ℕ) (xs : List ℕ) → 0 < least → 0 < wanted → AreParts size least wanted (cut_from size least wanted xs)
are_parts size least wanted [] l w = tt
are_parts size least wanted (x ∷ xs) l w =
    go (nat_le wanted (size x)) refl (are_parts size least least xs l l) (λ h. are_parts size least (wanted - size x) xs l h)
  where
    one : (parts : List (List ℕ)) → wanted ≤ size x → AreParts size least least parts → AreParts size least wanted ((x ∷ []) ∷ parts)
    one [] h k = (record { front = []; last = x; are = refl; below = w }, tt)
    one (c ∷ parts) h k = (record { front = []; last = x; are = refl; below = w }, omega arith, k)

    go : (b : Bool) → nat_le wanted (size x) ≡ b → AreParts size least least (cut_from size least least xs) → (0 < wanted - size x → AreParts size least (wanted - size x) (cut_from size least (wanted - size x) xs)) →
        AreParts size least wanted (if b then (x ∷ []) ∷ cut_from size least least xs else in_front x (cut_from size least (wanted - size x) xs))
    go true e h k = one (cut_from size least least xs) (leb-true wanted (size x) e) h
    go false e h k = let g = leb-false wanted (size x) e in in_front-are size least wanted x (cut_from size least (wanted - size x) xs) g (k (omega arith))

pub is_cut : (size : ℕ → ℕ) (least : ℕ) (xs : List ℕ) → 0 < least → IsCut size least xs (cut size least xs)
is_cut size least xs l = record { joined_are = joined-cut_from size least least xs; each = are_parts size least least xs l l }

-- ---- the rule leaves no choice

no_part : (size : ℕ → ℕ) (wanted : ℕ) → IsPart size wanted [] → Prim.⊥
no_part size wanted is = go is.front is.are
  where
    go : (front : List ℕ) → [] ≡ front ++ is.last ∷ [] → Prim.⊥
    go [] e = cc
    go (y ∷ front) e = cc

-- a part without its first section
record Shorter (size : ℕ → ℕ) (wanted x y : ℕ) (c : List ℕ) : Type 0 where
  pub less : size x < wanted
  pub is : IsPart size (wanted - size x) (y ∷ c)

shorter : (size : ℕ → ℕ) (wanted x y : ℕ) (c : List ℕ) → IsPart size wanted (x ∷ y ∷ c) → Shorter size wanted x y c
shorter size wanted x y c is = go is.front is.are is.below
  where
    go : (front : List ℕ) → x ∷ y ∷ c ≡ front ++ is.last ∷ [] → packets_in size front < wanted → Shorter size wanted x y c
    go [] e b = absurd (let t : y ∷ c ≡ [] = cc in cc)
    go (z ∷ front) e b =
        let s : x ≡ z = cc in
        let t : y ∷ c ≡ front ++ is.last ∷ [] = cc in
        let k = ap size s in
        record { less = omega arith; is = record { front = front; last = is.last; are = t; below = omega arith } }

not_enough : (size : ℕ → ℕ) (least wanted x : ℕ) (xs : List ℕ) → size x < wanted → cut_from size least wanted (x ∷ xs) ≡ in_front x (cut_from size least (wanted - size x) xs)
not_enough size least wanted x xs h = ap (λ (b : Bool). if b then (x ∷ []) ∷ cut_from size least least xs else in_front x (cut_from size least (wanted - size x) xs)) (lt-leb wanted (size x) h)

last_part : (size : ℕ → ℕ) (least : ℕ) (c : List ℕ) (wanted : ℕ) → IsPart size wanted c → c ∷ [] ≡ cut_from size least wanted c
last_part size least [] wanted is = absurd (no_part size wanted is)
last_part size least (x ∷ []) wanted is = go (nat_le wanted (size x))
  where
    go : (b : Bool) → (x ∷ []) ∷ [] ≡ (if b then (x ∷ []) ∷ [] else (x ∷ []) ∷ [])
    go true = refl
    go false = refl
last_part size least (x ∷ y ∷ c) wanted is =
    let s = shorter size wanted x y c is in
    ap (in_front x) (last_part size least (y ∷ c) (wanted - size x) s.is) ∙ sym (not_enough size least wanted x (y ∷ c) s.less)

next_part : (size : ℕ → ℕ) (least : ℕ) (d : List ℕ) (ds : List (List ℕ)) → d ∷ ds ≡ cut_from size least least (d ++ joined ds) →
    (c : List ℕ) (wanted : ℕ) → IsPart size wanted c → wanted ≤ packets_in size c → c ∷ d ∷ ds ≡ cut_from size least wanted (c ++ (d ++ joined ds))
next_part size least d ds h [] wanted is full = absurd (no_part size wanted is)
next_part size least d ds h (x ∷ []) wanted is full =
    ap (λ (t : List (List ℕ)). (x ∷ []) ∷ t) h
    ∙ sym (ap (λ (b : Bool). if b then (x ∷ []) ∷ cut_from size least least (d ++ joined ds) else in_front x (cut_from size least (wanted - size x) (d ++ joined ds))) (le-leb wanted (size x) (omega arith)))
next_part size least d ds h (x ∷ y ∷ c) wanted is full =
    let s = shorter size wanted x y c is in
    let l = s.less in
    ap (in_front x) (next_part size least d ds h (y ∷ c) (wanted - size x) s.is (omega arith)) ∙ sym (not_enough size least wanted x ((y ∷ c) ++ (d ++ joined ds)) s.less)

unique : (size : ℕ → ℕ) (least : ℕ) (c : List ℕ) (parts : List (List ℕ)) (wanted : ℕ) → AreParts size least wanted (c ∷ parts) → c ∷ parts ≡ cut_from size least wanted (c ++ joined parts)
unique size least c [] wanted is = last_part size least c wanted is.0 ∙ ap (cut_from size least wanted) (sym (append-nil c))
unique size least c (d ∷ ds) wanted is = next_part size least d ds (unique size least d ds least is.2) c wanted is.0 is.1

only_cut : (size : ℕ → ℕ) (least : ℕ) (xs : List ℕ) (parts : List (List ℕ)) → IsCut size least xs parts → parts ≡ cut size least xs
only_cut size least xs [] is = ap (cut size least) is.joined_are
only_cut size least xs (c ∷ parts) is = unique size least c parts least is.each ∙ ap (cut size least) is.joined_are

pub cuts_are_unique : CutsAreUnique
cuts_are_unique size least xs l = record { is_cut = is_cut size least xs l; only = only_cut size least xs }
