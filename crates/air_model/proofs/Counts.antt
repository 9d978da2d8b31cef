-- How many packets of Fast stand between two sections of the body.
use Rattle.std.proofs.Common.{◌≡◌, ℕ, suc, ◌+◌, ◌*◌, ◌≤◌, ◌⊎◌, inl, inr, List, [], ◌∷◌, ◌++◌, Bool, true, false, cond, refl, sym, ap, ap₂, ◌∙◌, subst, arith}
use Rattle.std.specs.List.{AllByRecursion, filter}
use Rattle.std.specs.Prelude.{if◌then◌else◌, nat_le}
use Rattle.std.proofs.lemmas.Bool.Decides.{nat_tests}
use Rattle.std.proofs.lemmas.List.Elements.{filter-append}
use Rattle.std.proofs.Math.Nat.{mul-le-mul_right}
use Rattle.air_model.specs.Cutting.{packets_in, AreParts}
use Rattle.air_model.specs.Cycle.{led, at_least_one}
use Rattle.air_model.specs.Spacing.{Lacks}
use Rattle.air_model.proofs.Lists.{none, packets-append, pass_over}
use Rattle.air_model.proofs.Leads.{AllAre, filter-all, filter-none}
use Rattle.std.proofs.lemmas.Bool.{le-leb}
use Rattle.si_lists.proofs.Lists.{all_front, all_behind, two_fronts}
use Rattle.si_lists.proofs.Truths.{one_at_most}

-- the packets of the sections that fail a test
abbrev pub failing : (ℕ → Bool) → (ℕ → ℕ) → List ℕ → ℕ
failing t size [] = 0
failing t size (x ∷ xs) = (if t x then 0 else size x) + failing t size xs

failing-append : (t : ℕ → Bool) (size : ℕ → ℕ) (a b : List ℕ) → failing t size (a ++ b) ≡ failing t size a + failing t size b
failing-append t size [] b = let e : failing t size b ≡ 0 + failing t size b = omega arith in e
failing-append t size (x ∷ a) b = ap (λ (n : ℕ). (if t x then 0 else size x) + n) (failing-append t size a b) ∙ (let e : (if t x then 0 else size x) + (failing t size a + failing t size b) ≡ ((if t x then 0 else size x) + failing t size a) + failing t size b = omega arith in e)

pub packets-split : (t : ℕ → Bool) (size : ℕ → ℕ) (xs : List ℕ) → packets_in size xs ≡ failing t size xs + packets_in size (filter t xs)
packets-split t size [] = refl
packets-split t size (x ∷ xs) = go (t x) (packets-split t size xs)
  where
    go : (c : Bool) → packets_in size xs ≡ failing t size xs + packets_in size (filter t xs) →
        size x + packets_in size xs ≡ ((if c then 0 else size x) + failing t size xs) + packets_in size (cond c (x ∷ filter t xs) (filter t xs))
    go true e = omega arith
    go false e = omega arith

failing-none : (t : ℕ → Bool) (size : ℕ → ℕ) (xs : List ℕ) → AllAre t true xs → failing t size xs ≡ 0
failing-none t size [] h = refl
failing-none t size (x ∷ xs) h = ap (λ (b : Bool). (if b then 0 else size x) + failing t size xs) h.0 ∙ (let i = failing-none t size xs h.1 in let e : 0 + failing t size xs ≡ 0 = omega arith in e)

failing-all : (t : ℕ → Bool) (size : ℕ → ℕ) (xs : List ℕ) → AllAre t false xs → failing t size xs ≡ packets_in size xs
failing-all t size [] h = refl
failing-all t size (x ∷ xs) h = ap (λ (b : Bool). (if b then 0 else size x) + failing t size xs) h.0 ∙ ap (λ (n : ℕ). size x + n) (failing-all t size xs h.1)

-- ---- parts that are not full

-- the parts but the last that have fewer packets than q
abbrev pub shorts : (ℕ → ℕ) → ℕ → List (List ℕ) → ℕ
shorts size q [] = 0
shorts size q (c ∷ []) = 0
shorts size q (c ∷ d ∷ parts) = (if nat_le q (packets_in size c) then 0 else 1) + shorts size q (d ∷ parts)

shorts-tail : (size : ℕ → ℕ) (q : ℕ) (c : List ℕ) (parts : List (List ℕ)) → shorts size q parts ≤ shorts size q (c ∷ parts)
shorts-tail size q c [] = omega arith
shorts-tail size q c (d ∷ parts) = omega arith

pub shorts-append : (size : ℕ → ℕ) (q : ℕ) (a b : List (List ℕ)) → shorts size q (a ++ b) ≤ 1 + shorts size q a + shorts size q b
shorts-append size q [] b = omega arith
shorts-append size q (c ∷ []) [] = omega arith
shorts-append size q (c ∷ []) (d ∷ b) = let o = one_at_most (nat_le q (packets_in size c)) in omega arith
shorts-append size q (c ∷ d ∷ a) b = let i = shorts-append size q (d ∷ a) b in omega arith

shorts-cut : (size : ℕ → ℕ) (q : ℕ) (parts : List (List ℕ)) → AreParts size q q parts → shorts size q parts ≡ 0
shorts-cut size q [] h = refl
shorts-cut size q (c ∷ []) h = refl
shorts-cut size q (c ∷ d ∷ parts) h =
    ap (λ (b : Bool). (if b then 0 else 1) + shorts size q (d ∷ parts)) (le-leb q (packets_in size c) h.1) ∙ (let i = shorts-cut size q (d ∷ parts) h.2 in let e : 0 + shorts size q (d ∷ parts) ≡ 0 = omega arith in e)

pub shorts-one : (size : ℕ → ℕ) (q : ℕ) (parts : List (List ℕ)) → AreParts size q q parts → shorts size q (at_least_one parts) ≡ 0
shorts-one size q [] h = refl
shorts-one size q (c ∷ parts) h = shorts-cut size q (c ∷ parts) h

-- ---- leads between sections of the parts

-- so many leads, and so many packets of the parts between them
pub record Few (f q among other short : ℕ) : Type 0 where
  pub count : ℕ
  pub at_most : among ≤ count * f
  pub apart : count * q ≤ other + (1 + short) * q

-- in a front of parts with their leads
few-front : (t : ℕ → Bool) (size : ℕ → ℕ) (q : ℕ) (lead : List ℕ) (parts : List (List ℕ)) → AllAre t false lead → AllByRecursion (AllAre t true) parts →
    (ys zs : List ℕ) → led lead parts ≡ ys ++ zs → Few (packets_in size lead) q (failing t size ys) (packets_in size (filter t ys)) (shorts size q parts)
few-front t size q lead [] al all [] zs e = record { count = 0; at_most = omega arith; apart = omega arith }
few-front t size q lead [] al all (y ∷ ys) zs e = absurd (let h : [] ≡ y ∷ (ys ++ zs) = e in let b : Prim.⊥ = cc in b)
few-front t size q lead (c ∷ []) al all ys zs e =
    let w = ap (failing t size) e in
    let l = failing-append t size (lead ++ c) [] in
    let m = failing-append t size lead c in
    let n = failing-append t size ys zs in
    let a = failing-all t size lead al in
    let b = failing-none t size c all.0 in
    record { count = 1; at_most = omega arith; apart = omega arith }
few-front t size q lead (c ∷ d ∷ parts) al all ys zs e =
    go (two_fronts (lead ++ c) (led lead (d ∷ parts)) ys zs e) (λ ws f. few-front t size q lead (d ∷ parts) al all.1 ws zs f)
  where
    next : (b : Bool) → nat_le q (packets_in size c) ≡ b → (ws : List ℕ) → ys ≡ (lead ++ c) ++ ws → Few (packets_in size lead) q (failing t size ws) (packets_in size (filter t ws)) (shorts size q (d ∷ parts))
        → Few (packets_in size lead) q (failing t size ys) (packets_in size (filter t ys)) ((if b then 0 else 1) + shorts size q (d ∷ parts))
    next b is ws g few =
        let w = ap (failing t size) g in
        let l = failing-append t size (lead ++ c) ws in
        let m = failing-append t size lead c in
        let a = failing-all t size lead al in
        let n = failing-none t size c all.0 in
        let o = ap (λ (s : List ℕ). packets_in size (filter t s)) g in
        let p = ap (packets_in size) (filter-append t (lead ++ c) ws) in
        let r = packets-append size (filter t (lead ++ c)) (filter t ws) in
        let s = ap (packets_in size) (filter-append t lead c ∙ ap₂ (λ (a b : List ℕ). a ++ b) (filter-none t lead al) (filter-all t c all.0)) in
        let x = few.at_most in
        let y = few.apart in
        record {
          count = suc few.count;
          at_most = omega arith;
          apart = elim b as (λ (b : Bool). nat_le q (packets_in size c) ≡ b → suc few.count * q ≤ packets_in size (filter t ys) + (1 + ((if b then 0 else 1) + shorts size q (d ∷ parts))) * q)
              [ true ↦ λ h. (let k : q ≤ packets_in size c = grind (arith, nat_tests) in omega arith) | false ↦ λ h. omega arith ] is;
        }

    go : ((e : List ℕ) × (lead ++ c ≡ ys ++ e) × (zs ≡ e ++ led lead (d ∷ parts))) ⊎ ((e : List ℕ) × (ys ≡ (lead ++ c) ++ e) × (led lead (d ∷ parts) ≡ e ++ zs)) →
        ((ws : List ℕ) → led lead (d ∷ parts) ≡ ws ++ zs → Few (packets_in size lead) q (failing t size ws) (packets_in size (filter t ws)) (shorts size q (d ∷ parts))) →
        Few (packets_in size lead) q (failing t size ys) (packets_in size (filter t ys)) ((if nat_le q (packets_in size c) then 0 else 1) + shorts size q (d ∷ parts))
    go (inl (w, g, h)) again =
        let k = ap (failing t size) g in
        let m = failing-append t size lead c in
        let n = failing-append t size ys w in
        let a = failing-all t size lead al in
        let b = failing-none t size c all.0 in
        record { count = 1; at_most = omega arith; apart = omega arith }
    go (inr (w, g, h)) again = next (nat_le q (packets_in size c)) refl w g (again w h)

fewer_shorts : (f q among other s r : ℕ) → s ≤ r → Few f q among other s → Few f q among other r
fewer_shorts f q among other s r l few =
    let a = few.apart in
    let m : s * q ≤ r * q = mul-le-mul_right q l in
    record { count = few.count; at_most = few.at_most; apart = omega arith }

-- behind a section of the parts
pub few-behind : (t : ℕ → Bool) (size : ℕ → ℕ) (q : ℕ) (lead : List ℕ) (parts : List (List ℕ)) → AllAre t false lead → AllByRecursion (AllAre t true) parts →
    (x : ℕ) → Lacks x lead → (u ys zs : List ℕ) → led lead parts ≡ u ++ x ∷ (ys ++ zs) → Few (packets_in size lead) q (failing t size ys) (packets_in size (filter t ys)) (shorts size q parts)
few-behind t size q lead [] al all x lx u ys zs e = absurd (none x u (ys ++ zs) e)
few-behind t size q lead (c ∷ parts) al all x lx u ys zs e =
    fewer_shorts (packets_in size lead) q (failing t size ys) (packets_in size (filter t ys)) (shorts size q parts) (shorts size q (c ∷ parts)) (shorts-tail size q c parts)
    (go (two_fronts (lead ++ c) (led lead parts) u (x ∷ (ys ++ zs)) e) (λ v f. few-behind t size q lead parts al all.1 x lx v ys zs f))
  where
    inside : (w : List ℕ) → lead ++ c ≡ u ++ x ∷ w → ((e : List ℕ) × (w ≡ ys ++ e) × (zs ≡ e ++ led lead parts)) ⊎ ((e : List ℕ) × (ys ≡ w ++ e) × (led lead parts ≡ e ++ zs)) →
        Few (packets_in size lead) q (failing t size ys) (packets_in size (filter t ys)) (shorts size q parts)
    inside w g cuts =
        let o = pass_over x lead c u w g lx in
        let k : AllAre t true w = (all_behind (λ (y : ℕ). t y ≡ true) o.0 (x ∷ w) (subst (AllAre t true) o.2 all.0)).1 in
        elim cuts [
          | inl r ↦ (let n = failing-none t size ys (all_front (λ (y : ℕ). t y ≡ true) ys r.0 (subst (AllAre t true) r.1 k)) in record { count = 0; at_most = omega arith; apart = omega arith })
          | inr r ↦ (let few = few-front t size q lead parts al all.1 r.0 zs r.2 in
              let wt = ap (failing t size) r.1 in
              let l = failing-append t size w r.0 in
              let n = failing-none t size w k in
              let o = ap (λ (s : List ℕ). packets_in size (filter t s)) r.1 in
              let p = ap (packets_in size) (filter-append t w r.0) in
              let s = packets-append size (filter t w) (filter t r.0) in
              let am = few.at_most in
              let aq = few.apart in
              record { count = few.count; at_most = omega arith; apart = omega arith })
        ]

    go : ((e : List ℕ) × (lead ++ c ≡ u ++ e) × (x ∷ (ys ++ zs) ≡ e ++ led lead parts)) ⊎ ((e : List ℕ) × (u ≡ (lead ++ c) ++ e) × (led lead parts ≡ e ++ x ∷ (ys ++ zs))) →
        ((v : List ℕ) → led lead parts ≡ v ++ x ∷ (ys ++ zs) → Few (packets_in size lead) q (failing t size ys) (packets_in size (filter t ys)) (shorts size q parts)) →
        Few (packets_in size lead) q (failing t size ys) (packets_in size (filter t ys)) (shorts size q parts)
    go (inr (v, g, h)) again = again v h
    go (inl ([], g, h)) again = again [] (sym h)
    go (inl (y ∷ w, g, h)) again =
        let s : y ≡ x = cc in
        let r : w ++ led lead parts ≡ ys ++ zs = cc in
        inside w (subst (λ (m : ℕ). lead ++ c ≡ u ++ m ∷ w) s g) (two_fronts w (led lead parts) ys zs r)
