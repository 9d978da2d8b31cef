-- The sections that begin and end in a part of packets, where the packets are two lists.
use Rattle.std.proofs.Common.{◌≡◌, ℕ, ◌+◌, ◌-◌, ◌<◌, ◌≤◌, ◌⊎◌, inl, inr, List, [], ◌∷◌, ◌++◌, length, take, drop, refl, sym, ap, ap₂, ◌∙◌}
use Rattle.std.proofs.Common.{subst, arith, append-nil, length-take}
use Rattle.std.specs.List.{AllByRecursion}
use Rattle.std.proofs.Math.Seq.{take-append-add}
use Rattle.std.proofs.lemmas.List.{take-append-drop, take-append-le, take_all, drop_all}
use Rattle.std.proofs.lemmas.List.Concat.{flat_map-append}
use Rattle.ts_packets.specs.Packets.{left, all_of}
use Rattle.ts_packets.proofs.Carrying.{left-append}
use Rattle.ts_demux.specs.Laws.{but_last, ended, within}
use Rattle.si_lists.proofs.Lists.{all_append, all_front, all_behind}
use Rattle.si_lists.proofs.Parts.{le_either, lt_or, drop-both}

abbrev Groups : Type 0
Groups = List (List (List ℕ))

ended-none : (rest : List ℕ) → ended rest [] ≡ []
ended-none [] = refl
ended-none (b ∷ rest) = refl

-- no packet, no section
pub within-none : (join end : ℕ) (groups : Groups) → (end ≤ join) ⊎ (length groups ≤ join) → within join end groups ≡ []
within-none join end groups le =
    ap (λ (gs : Groups). ended (left [] (take end groups)) (all_of gs)) (drop_all join (take end groups) (few le))
    ∙ ended-none (left [] (take end groups))
  where
    few : (end ≤ join) ⊎ (length groups ≤ join) → length (take end groups) ≤ join
    few (inl le) = omega (arith, le, length-take end groups)
    few (inr le) = omega (arith, le, length-take end groups)

-- where no section begins, none is open
no_sections : (groups : Groups) → all_of groups ≡ [] → left [] groups ≡ []
no_sections [] e = refl
no_sections ([] ∷ groups) e = no_sections groups e
no_sections ((s ∷ ss) ∷ groups) e = cc

but_last-append : (ss : List (List ℕ)) (t : List ℕ) (ts : List (List ℕ)) → but_last (ss ++ t ∷ ts) ≡ ss ++ but_last (t ∷ ts)
but_last-append [] t ts = refl
but_last-append (s ∷ []) t ts = refl
but_last-append (s ∷ r ∷ ss) t ts = ap (λ (l : List (List ℕ)). s ∷ l) (but_last-append (r ∷ ss) t ts)

ended-append : (rest : List ℕ) (ss ts : List (List ℕ)) → (ts ≡ [] → (rest ≡ []) ⊎ (ss ≡ [])) → ended rest (ss ++ ts) ≡ ss ++ ended rest ts
ended-append [] ss ts none = refl
ended-append (b ∷ rest) ss (t ∷ ts) none = but_last-append ss t ts
ended-append (b ∷ rest) ss [] none = go (none refl)
  where
    go : (b ∷ rest ≡ []) ⊎ (ss ≡ []) → ended (b ∷ rest) (ss ++ []) ≡ ss ++ []
    go (inl e) = cc
    go (inr e) = ap (λ (l : List (List ℕ)). but_last (l ++ [])) e ∙ ap (λ (l : List (List ℕ)). l ++ []) (sym e)

-- Where none is open between them, a part of two lists of packets is a part of each.
pub within-append : (join end : ℕ) (gs hs : Groups) → left [] gs ≡ []
    → within join end (gs ++ hs) ≡ within join end gs ++ within (join - length gs) (end - length gs) hs
within-append join end gs hs closed = go (le_either end (length gs))
  where
    n : ℕ
    n = end - length gs

    front : Groups
    front = take n hs

    here : List (List ℕ)
    here = all_of (drop join gs)

    there : List (List ℕ)
    there = all_of (drop (join - length gs) front)

    opens : (le : (join ≤ length gs) ⊎ (length gs ≤ join)) → there ≡ [] → (left [] front ≡ []) ⊎ (here ≡ [])
    opens (inl le) e =
        inl (no_sections front (ap (λ (k : ℕ). all_of (drop k front)) (let none : 0 ≡ join - length gs = omega (arith, le) in none) ∙ e))
    opens (inr le) e = inr (ap all_of (drop_all join gs le))

    go : (end ≤ length gs) ⊎ (length gs ≤ end)
        → within join end (gs ++ hs) ≡ within join end gs ++ within (join - length gs) (end - length gs) hs
    go (inl le) =
        let few : end - length gs ≤ join - length gs = omega (arith, le) in
        ap (λ (x : Groups). ended (left [] x) (all_of (drop join x))) (take-append-le end gs hs le) ∙ sym (append-nil (within join end gs))
        ∙ ap (λ (l : List (List ℕ)). within join end gs ++ l) (sym (within-none (join - length gs) (end - length gs) hs (inl few)))
    go (inr le) =
        let sum : end ≡ length gs + n = omega (arith, le) in
        let all : take end (gs ++ hs) ≡ gs ++ front = ap (λ (k : ℕ). take k (gs ++ hs)) sum ∙ take-append-add gs hs n in
        let rest : left [] (gs ++ front) ≡ left [] front = left-append [] gs front ∙ ap (λ (r : List ℕ). left r front) closed in
        let parts : all_of (drop join (gs ++ front)) ≡ here ++ there =
        ap all_of (drop-both join gs front) ∙ flat_map-append (λ (g : List (List ℕ)). g) (drop join gs) (drop (join - length gs) front) in
        let own : here ≡ within join end gs =
        ap (λ (r : List ℕ). ended r here) (sym closed)
        ∙ ap (λ (x : Groups). ended (left [] x) (all_of (drop join x))) (sym (take_all end gs le)) in
        ap (λ (x : Groups). ended (left [] x) (all_of (drop join x))) all
        ∙ ap₂ ended rest parts
        ∙ ended-append (left [] front) here there (opens (le_either join (length gs)))
        ∙ ap (λ (l : List (List ℕ)). l ++ ended (left [] front) there) own

-- all packets, all sections
pub within-all : (join end : ℕ) (groups : Groups) → join ≡ 0 → length groups ≤ end → left [] groups ≡ []
    → within join end groups ≡ all_of groups
within-all join end groups none le closed =
    ap (λ (k : ℕ). within k end groups) none ∙ ap (λ (x : Groups). ended (left [] x) (all_of x)) (take_all end groups le)
    ∙ ap (λ (r : List ℕ). ended r (all_of groups)) closed

-- what holds of all sections holds of those in a part
all-but_last : (P : List ℕ → Type 0) (ss : List (List ℕ)) → AllByRecursion P ss → AllByRecursion P (but_last ss)
all-but_last P [] all = tt
all-but_last P (s ∷ []) all = tt
all-but_last P (s ∷ t ∷ ss) all = (all.0, all-but_last P (t ∷ ss) all.1)

all-ended : (P : List ℕ → Type 0) (rest : List ℕ) (ss : List (List ℕ)) → AllByRecursion P ss → AllByRecursion P (ended rest ss)
all-ended P [] ss all = all
all-ended P (b ∷ rest) ss all = all-but_last P ss all

of_groups : (P : List ℕ → Type 0) (gs hs : Groups) → AllByRecursion P (all_of (gs ++ hs))
    → AllByRecursion P (all_of gs) × AllByRecursion P (all_of hs)
of_groups P gs hs all =
    let both = subst (AllByRecursion P) (flat_map-append (λ (g : List (List ℕ)). g) gs hs) all in
    (all_front P (all_of gs) (all_of hs) both, all_behind P (all_of gs) (all_of hs) both)

pub all-within : (P : List ℕ → Type 0) (join end : ℕ) (groups : Groups) → AllByRecursion P (all_of groups)
    → AllByRecursion P (within join end groups)
all-within P join end groups all =
    let first =
    (of_groups P (take end groups) (drop end groups)
    (subst (λ (gs : Groups). AllByRecursion P (all_of gs)) (sym (take-append-drop end groups)) all)).0 in
    let part =
    (of_groups P (take join (take end groups)) (drop join (take end groups))
    (subst (λ (gs : Groups). AllByRecursion P (all_of gs)) (sym (take-append-drop join (take end groups))) first)).1 in
    all-ended P (left [] (take end groups)) (all_of (drop join (take end groups))) part

-- what holds of both parts
pub all-parts : (P : List ℕ → Type 0) (join end : ℕ) (gs hs : Groups) → left [] gs ≡ [] → AllByRecursion P (within join end gs)
    → AllByRecursion P (within (join - length gs) (end - length gs) hs)
    → AllByRecursion P (within join end (gs ++ hs))
all-parts P join end gs hs closed one two =
    subst (AllByRecursion P) (sym (within-append join end gs hs closed))
    (all_append P (within join end gs) (within (join - length gs) (end - length gs) hs) one two)

-- a part with a section has a packet
pub some_part : (join end : ℕ) (groups : Groups) → (within join end groups ≡ []) ⊎ ((join < length groups) × (join < end))
some_part join end groups = go (lt_or join (length groups)) (lt_or join end)
  where
    go : (join < length groups) ⊎ (length groups ≤ join) → (join < end) ⊎ (end ≤ join)
        → (within join end groups ≡ []) ⊎ ((join < length groups) × (join < end))
    go (inl lt) (inl less) = inr (lt, less)
    go (inr le) other = inl (within-none join end groups (inr le))
    go (inl lt) (inr le) = inl (within-none join end groups (inl le))

-- what holds of all sections that begin in a part, if it has a packet
pub all-part : (P : List ℕ → Type 0) (join end : ℕ) (groups : Groups)
    → (join < length groups → join < end → AllByRecursion P (all_of groups)) → AllByRecursion P (within join end groups)
all-part P join end groups all = go (some_part join end groups)
  where
    go : (within join end groups ≡ []) ⊎ ((join < length groups) × (join < end)) → AllByRecursion P (within join end groups)
    go (inl none) = subst (AllByRecursion P) (sym none) tt
    go (inr some) = all-within P join end groups (all some.0 some.1)
