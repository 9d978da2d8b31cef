-- Leads: what stands in them, and their packets.
use Rattle.std.proofs.Common.{◌≡◌, ℕ, zero, suc, ◌+◌, ◌<◌, ◌≤◌, List, [], ◌∷◌, ◌++◌, Option, Some, None, length, map, get_or, refl, sym, ap, ◌∙◌, subst, arith}
use Rattle.std.specs.Prelude.{slice_get}
use Rattle.std.specs.List.{AllByRecursion, cons_option}
use Rattle.section_codec.specs.Contents.{numbers_from}
use Rattle.air_model.proofs.Planned.{all_got}
use Rattle.air_timing.specs.Pacing.{Timed}
use Rattle.air_timing.specs.Frames.{AreOthers}
use Rattle.air_timing.specs.Spreading.{AreGroups}
use Rattle.air_timing.specs.Turns.{turn_of}
use Rattle.cycle_timing.specs.Leads.{largest, in_turn, lead_from}

-- ---- the largest of numbers

pub largest_least : (ns : List ℕ) → AllByRecursion (λ (n : ℕ). n ≤ largest ns) ns
largest_least ns = go ns (largest ns) (omega arith)
  where
    go : (ms : List ℕ) (n : ℕ) → largest ms ≤ n → AllByRecursion (λ (m : ℕ). m ≤ n) ms
    go [] n h = tt
    go (m ∷ ms) n h = (omega arith, go ms n (omega arith))

-- ---- elements at places

pub all_or : {X : Type 0} (P : X → Type 0) (xs : List X) (d : X) (i : ℕ) → AllByRecursion P xs → P d → P (get_or xs i d)
all_or P [] d i all none = none
all_or P (x ∷ xs) d zero all none = all.0
all_or P (x ∷ xs) d (suc i) all none = all_or P xs d i all.1 none

pub at_number : {X : Type 0} (f : ℕ → X) (d : X) (a n i : ℕ) → i < n → get_or (map f (numbers_from a n)) i d ≡ f (a + i)
at_number f d a zero i l = absurd (omega arith)
at_number f d a (suc n) zero l = ap f (let e : a ≡ a + 0 = omega arith in e)
at_number f d a (suc n) (suc i) l = at_number f d (1 + a) n i (omega arith) ∙ ap f (let e : 1 + a + i ≡ a + suc i = omega arith in e)

pub length_numbers : (a n : ℕ) → length (numbers_from a n) ≡ n
length_numbers a zero = refl
length_numbers a (suc n) = ap suc (length_numbers (1 + a) n)

-- ---- what stands in a lead

with_option : {X : Type 0} (o : Option X) (xs ys : List X) → cons_option o (xs ++ ys) ≡ cons_option o xs ++ ys
with_option None xs ys = refl
with_option (Some x) xs ys = refl

pub lead_append : (often i q : ℕ) (gs bs : List (List ℕ)) → lead_from often i q (gs ++ bs) ≡ lead_from often i q gs ++ lead_from often i (q + length gs) bs
lead_append often i q [] bs = ap (λ (n : ℕ). lead_from often i n bs) (let e : q ≡ q + 0 = omega arith in e)
lead_append often i q (g ∷ gs) bs =
    let o = in_turn g (turn_of often q i (length g)) in
    ap (cons_option o) (lead_append often i (suc q) gs bs ∙ ap (λ (n : ℕ). lead_from often i (suc q) gs ++ lead_from often i n bs) (let e : suc q + length gs ≡ q + suc (length gs) = omega arith in e))
    ∙ with_option o (lead_from often i (suc q) gs) (lead_from often i (q + suc (length gs)) bs)

-- what holds of the sections of each sub-table holds of those in a lead
all_option : {X : Type 0} (P : X → Type 0) (xs : List X) (o : Option X) → ((x : X) → o ≡ Some x → P x) → AllByRecursion P xs → AllByRecursion P (cons_option o xs)
all_option P xs None h all = all
all_option P xs (Some x) h all = (h x refl, all)

pub turn_in : (P : ℕ → Type 0) (group : List ℕ) (o : Option ℕ) (x : ℕ) → AllByRecursion P group → in_turn group o ≡ Some x → P x
turn_in P group None x all e = cc
turn_in P group (Some k) x all e = all_got P group k x all e

pub all_lead : (P : ℕ → Type 0) (often i q : ℕ) (gs : List (List ℕ)) → AllByRecursion (AllByRecursion P) gs → AllByRecursion P (lead_from often i q gs)
all_lead P often i q [] all = tt
all_lead P often i q (g ∷ gs) all =
    all_option P (lead_from often i (suc q) gs) (in_turn g (turn_of often q i (length g))) (λ x e. turn_in P g (turn_of often q i (length g)) x all.0 e) (all_lead P often i (suc q) gs all.1)

-- no two are of one sub-table
pub lead_others : (t : Timed) (often i q : ℕ) (gs : List (List ℕ)) → AreGroups t.table gs → AreOthers t (lead_from often i q gs)
lead_others t often i q [] h = tt
lead_others t often i q (g ∷ gs) h = go (in_turn g (turn_of often q i (length g))) refl (lead_others t often i (suc q) gs h.1)
  where
    rest : List ℕ
    rest = lead_from often i (suc q) gs

    go : (o : Option ℕ) → in_turn g (turn_of often q i (length g)) ≡ o → AreOthers t rest → AreOthers t (cons_option o rest)
    go None e r = r
    go (Some x) e r =
        let k = h.0.0 in
        let same : t.table x ≡ k = turn_in (λ (y : ℕ). t.table y ≡ k) g (turn_of often q i (length g)) x h.0.1 e in
        let others : AllByRecursion (λ (y : ℕ). t.table y ≡ k → Prim.⊥) rest = all_lead (λ (y : ℕ). t.table y ≡ k → Prim.⊥) often i (suc q) gs h.0.2 in
        (subst (λ (n : ℕ). AllByRecursion (λ (y : ℕ). t.table y ≡ n → Prim.⊥) rest) (sym same) others, r)

-- the section of a sub-table that has its turn stands after those of the sub-tables before
pub lead_split : (often i : ℕ) (before : List (List ℕ)) (g : List ℕ) (bs : List (List ℕ)) (k x : ℕ) → turn_of often (length before) i (length g) ≡ Some k → slice_get g k ≡ Some x
    → lead_from often i 0 (before ++ g ∷ bs) ≡ lead_from often i 0 before ++ x ∷ lead_from often i (suc (length before)) bs
lead_split often i before g bs k x turn at =
    lead_append often i 0 before (g ∷ bs)
    ∙ ap (λ (n : ℕ). lead_from often i 0 before ++ lead_from often i n (g ∷ bs)) (let e : 0 + length before ≡ length before = omega arith in e)
    ∙ ap (λ (o : Option ℕ). lead_from often i 0 before ++ cons_option (in_turn g o) (lead_from often i (suc (length before)) bs)) turn
    ∙ ap (λ (o : Option ℕ). lead_from often i 0 before ++ cons_option o (lead_from often i (suc (length before)) bs)) at
