-- What stands between two sendings of a section, and how many packets that has.
use Rattle.std.proofs.Common.{◌≡◌, ℕ, zero, suc, ◌+◌, ◌*◌, ◌/◌, ◌<◌, ◌≤◌, inl, inr, List, [], ◌∷◌, ◌++◌, Bool, true, false, cond, sym, ap, ◌∙◌, subst, arith}
use Rattle.std.specs.Prelude.{nat_le}
use Rattle.std.specs.List.{AllByRecursion, filter}
use Rattle.std.proofs.lemmas.List.Elements.{filter-append}
use Rattle.std.proofs.lemmas.Nat.{le-div}
use Rattle.std.proofs.Math.Nat.{mul-le-mul_right}
use Rattle.si_lists.proofs.Lists.{all_append, all_at}
use Rattle.air_model.specs.Cutting.{packets_in, cut}
use Rattle.air_model.specs.Cycle.{Planned, led, fast_of, near_of, chunks_of, body_of, runs_of, cycle_of}
use Rattle.air_model.specs.Spacing.{Lacks, near_span, near_bound, IsWithinLimits}
use Rattle.air_model.proofs.Lists.{packets-append, all-numbers, numbers-lack, once}
use Rattle.air_model.proofs.Leads.{AllAre, Between, between, led-append, all-parts, filter-led, filter-all}
use Rattle.std.proofs.lemmas.Bool.{le-leb, lt-leb}
use Rattle.air_model.proofs.Cuts.{is_cut}
use Rattle.air_model.proofs.Tiers.{tiers, small_runs, small_chunks, chunks_joined, runs_joined}
use Rattle.air_model.proofs.Counts.{packets-split, shorts, shorts-append, shorts-one, few-behind}

two_cycles : (p : Planned) → cycle_of p ++ cycle_of p ≡ led (fast_of p) (runs_of p ++ runs_of p)
two_cycles p = sym (led-append (fast_of p) (runs_of p) (runs_of p))

-- ---- of a Fast section: all of Fast, and a run

pub record FastGap (p : Planned) (x : ℕ) (before gap : List ℕ) : Type 0 where
  pub front : List ℕ
  pub rest : List ℕ
  pub fast : fast_of p ≡ front ++ x ∷ rest
  pub is : Between x front rest (runs_of p ++ runs_of p) before gap
  pub small : packets_in p.size is.part ≤ p.quota + 22

pub fast_gap : (p : Planned) → IsWithinLimits p → (x : ℕ) → x < p.fasts → (before gap after : List ℕ) → cycle_of p ++ cycle_of p ≡ before ++ x ∷ (gap ++ x ∷ after) → Lacks x gap → FastGap p x before gap
fast_gap p is x l before gap after e h =
    let o = once 0 p.fasts x (omega arith) (omega arith) in
    let runs = runs_of p in
    let lacking : AllByRecursion (Lacks x) runs = (tiers (λ (i : ℕ). i ≡ x → Prim.⊥) p (λ i m n f. omega arith)).runs in
    let b = between x o.before o.after (runs ++ runs) o.lacks_before o.lacks_after (all_append (Lacks x) runs runs lacking lacking) before gap after
    (ap (λ (s : List ℕ). led s (runs ++ runs)) (sym o.are) ∙ sym (two_cycles p) ∙ e) h in
    let P : List ℕ → Type 0 = λ c. packets_in p.size c ≤ p.quota + 22 in
    record {
      front = o.before;
      rest = o.after;
      fast = o.are;
      is = b;
      small = all_at P b.past b.part b.more (subst (AllByRecursion P) b.are (all_append P runs runs (small_runs p is) (small_runs p is)));
    }

pub fast_gap-packets : (p : Planned) (x : ℕ) (before gap : List ℕ) → (g : FastGap p x before gap) → p.size x + packets_in p.size gap ≡ packets_in p.size (fast_of p) + packets_in p.size g.is.part
fast_gap-packets p x before gap g =
    let e = ap (packets_in p.size) g.is.between_is in
    let a = packets-append p.size (g.rest ++ g.is.part) g.front in
    let b = packets-append p.size g.rest g.is.part in
    let f = ap (packets_in p.size) g.fast in
    let c = packets-append p.size g.front (x ∷ g.rest) in
    omega arith

-- ---- of a Near section: all of Near and a chunk, and what Fast sections stand between

filter-at : (t : ℕ → Bool) (x : ℕ) (u v : List ℕ) → t x ≡ true → filter t (u ++ x ∷ v) ≡ filter t u ++ x ∷ filter t v
filter-at t x u v h = filter-append t u (x ∷ v) ∙ ap (λ (b : Bool). filter t u ++ cond b (x ∷ filter t v) (filter t v)) h

lacks-filter : (t : ℕ → Bool) (x : ℕ) (xs : List ℕ) → Lacks x xs → Lacks x (filter t xs)
lacks-filter t x [] h = tt
lacks-filter t x (y ∷ xs) h = go (t y) (lacks-filter t x xs h.1)
  where
    go : (b : Bool) → Lacks x (filter t xs) → Lacks x (cond b (y ∷ filter t xs) (filter t xs))
    go true k = (h.0, k)
    go false k = k

-- the Near and Far sections of a gap have few packets,
near_slow : (p : Planned) → IsWithinLimits p → (x : ℕ) → p.fasts ≤ x → x < p.fasts + p.nears → (before gap after : List ℕ) → cycle_of p ++ cycle_of p ≡ before ++ x ∷ (gap ++ x ∷ after) → Lacks x gap →
    p.size x + packets_in p.size (filter (λ i. nat_le p.fasts i) gap) ≤ 2 * packets_in p.size (near_of p) + 22
near_slow p is x l m before gap after e h =
    let t : ℕ → Bool = λ i. nat_le p.fasts i in
    let o = once p.fasts p.nears x l m in
    let tx : t x ≡ true = le-leb p.fasts x l in
    let low : AllAre t false (fast_of p) = all-numbers (λ (i : ℕ). t i ≡ false) 0 p.fasts (λ i l m. lt-leb p.fasts i (omega arith)) in
    let slow : AllAre t true (body_of p) = (tiers (λ (i : ℕ). t i ≡ true) p (λ i l m. le-leb p.fasts i l)).whole in
    let body_is : filter t (cycle_of p) ≡ body_of p = filter-led t (fast_of p) (runs_of p) low ∙ ap (filter t) (runs_joined p) ∙ filter-all t (body_of p) slow in
    let cs = chunks_of p in
    let lacking : AllByRecursion (Lacks x) cs = all-parts (λ (i : ℕ). i ≡ x → Prim.⊥) cs
    (subst (AllByRecursion (λ (i : ℕ). i ≡ x → Prim.⊥)) (sym (chunks_joined p)) (numbers-lack x (p.fasts + p.nears) p.fars (inl m))) in
    let P : List ℕ → Type 0 = λ c. packets_in p.size c ≤ packets_in p.size (near_of p) + 22 in
    let small_cs : AllByRecursion P cs = small_chunks p is (omega arith) in
    let both : filter t (cycle_of p ++ cycle_of p) ≡ led (near_of p) (cs ++ cs) = filter-append t (cycle_of p) (cycle_of p) ∙ ap (λ (s : List ℕ). s ++ s) body_is ∙ sym (led-append (near_of p) cs cs) in
    let parts : filter t (cycle_of p ++ cycle_of p) ≡ filter t before ++ x ∷ (filter t gap ++ x ∷ filter t after) =
    ap (filter t) e ∙ filter-at t x before (gap ++ x ∷ after) tx ∙ ap (λ (s : List ℕ). filter t before ++ x ∷ s) (filter-at t x gap after tx) in
    let b = between x o.before o.after (cs ++ cs) o.lacks_before o.lacks_after (all_append (Lacks x) cs cs lacking lacking) (filter t before) (filter t gap) (filter t after)
    (ap (λ (s : List ℕ). led s (cs ++ cs)) (sym o.are) ∙ sym both ∙ parts) (lacks-filter t x gap h) in
    let small : packets_in p.size b.part ≤ packets_in p.size (near_of p) + 22 = all_at P b.past b.part b.more (subst (AllByRecursion P) b.are (all_append P cs cs small_cs small_cs)) in
    let g = ap (packets_in p.size) b.between_is in
    let a = packets-append p.size (o.after ++ b.part) o.before in
    let c = packets-append p.size o.after b.part in
    let f = ap (packets_in p.size) o.are in
    let d = packets-append p.size o.before (x ∷ o.after) in
    omega arith

-- a count of leads against a quotient
leads : (count q s f : ℕ) → 0 < q → count * q ≤ s + 2 * q → count * f ≤ (s / q + 2) * f
leads count q s f some h =
    let l : count ≤ s / q + 2 = leads_below count q s some h in
    mul-le-mul_right f l
  where
    leads_below : (count q s : ℕ) → 0 < q → count * q ≤ s + 2 * q → count ≤ s / q + 2
    leads_below zero q s some h = omega arith
    leads_below (suc zero) q s some h = omega arith
    leads_below (suc (suc c)) q s some h = let k : c ≤ s / q = le-div c s q some (omega arith) in omega arith

-- with a packet to spare
pub near_gap : (p : Planned) → IsWithinLimits p → (x : ℕ) → p.fasts ≤ x → x < p.fasts + p.nears → (before gap after : List ℕ) → cycle_of p ++ cycle_of p ≡ before ++ x ∷ (gap ++ x ∷ after) → Lacks x gap → p.size x + packets_in p.size gap < near_bound p
near_gap p is x l m before gap after e h =
    let t : ℕ → Bool = λ i. nat_le p.fasts i in
    let slow = near_slow p is x l m before gap after e h in
    let low : AllAre t false (fast_of p) = all-numbers (λ (i : ℕ). t i ≡ false) 0 p.fasts (λ i l m. lt-leb p.fasts i (omega arith)) in
    let runs = runs_of p in
    let high : AllByRecursion (AllAre t true) runs = (tiers (λ (i : ℕ). t i ≡ true) p (λ i l m. le-leb p.fasts i l)).runs in
    let few = few-behind t p.size p.quota (fast_of p) (runs ++ runs) low (all_append (AllAre t true) runs runs high high)
    x (numbers-lack x 0 p.fasts (inr (omega arith))) before gap (x ∷ after) (sym (two_cycles p) ∙ e) in
    let d = packets-split t p.size gap in
    let k = shorts-append p.size p.quota runs runs in
    let z = shorts-one p.size p.quota (cut p.size p.quota (body_of p)) (is_cut p.size p.quota (body_of p) is.some_quota).each in
    let r : shorts p.size p.quota (runs ++ runs) ≤ 1 = omega arith in
    let w : shorts p.size p.quota (runs ++ runs) * p.quota ≤ 1 * p.quota = mul-le-mul_right p.quota r in
    let am = few.at_most in
    let aq = few.apart in
    let j : few.count * p.quota ≤ near_span p + 2 * p.quota = omega arith in
    let v : few.count * packets_in p.size (fast_of p) ≤ (near_span p / p.quota + 2) * packets_in p.size (fast_of p) = leads few.count p.quota (near_span p) (packets_in p.size (fast_of p)) is.some_quota j in
    omega arith
