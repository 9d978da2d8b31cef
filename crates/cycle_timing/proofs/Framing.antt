-- What a plan asks of its parts.
use Rattle.std.proofs.Common.{◌≡◌, ℕ, zero, suc, ◌+◌, ◌-◌, ◌/◌, ◌%◌, ◌<◌, ◌≤◌, ◌⊎◌, inl, inr, List, [], ◌∷◌, Bool, Option, Some, None, length, map, refl, sym, ap, ◌∙◌, subst, arith}
use Rattle.std.specs.Prelude.{slice_get, slice_index, ◌==◌, if◌then◌else◌, ◌^◌}
use Rattle.std.specs.List.{AllByRecursion, cons_option}
use Rattle.std.proofs.lemmas.Bool.{lt-ltb, le-ltb}
use Rattle.std.proofs.Math.Nat.{div-le_self}
use Rattle.si_lists.proofs.Lists.{all_of_map}
use Rattle.si_lists.proofs.Parts.{lt_or}
use Rattle.air_timing.specs.declared.pace.Paced.{Paced}
use Rattle.air_timing.specs.declared.span.Leads.{Leads}
use Rattle.air_timing.specs.Pacing.{place_at}
use Rattle.air_timing.specs.Plan.{Planned, framed_of, lead_at}
use Rattle.air_timing.specs.PlanView.{IsPlan, CanCount}
use Rattle.air_timing.specs.Turns.{often_of, turn_of}
use Rattle.air_timing.specs.Rate.{gap_at, half_second, span_at, span_within}
use Rattle.air_timing.proofs.Frames.{frames_are_short}
use Rattle.air_timing.proofs.Courses.{plans_are_long}
use Rattle.air_timing.proofs.EachTurn.{each_has_turn}
use Rattle.cycle_timing.specs.Leads.{most_sections, in_turn, lead_from, leads_of, measure}
use Rattle.cycle_timing.proofs.PacedLeads.{largest_least, all_or}
use Rattle.cycle_timing.proofs.Plans.{leads_length, lead_is, all_leads}
use Rattle.cycle_timing.specs.Plans.{AreNumbered, IsWithin, plan_with, timings_with, most_timings}

-- ---- each lead has a section

abbrev pub AllSome : List (List ℕ) → Type 0
AllSome gs = AllByRecursion (λ (g : List ℕ). 0 < length g) gs

got_within : (g : List ℕ) (k : ℕ) → k < length g → (x : ℕ) × (slice_get g k ≡ Some x)
got_within [] k l = absurd (omega arith)
got_within (y ∷ g) zero l = (y, refl)
got_within (y ∷ g) (suc k) l = got_within g k (omega arith)

-- a section that has a turn stands in the lead
with_turn : (g : List ℕ) (k : ℕ) (rest : List ℕ) → k < length g → 0 < length (cons_option (slice_get g k) rest)
with_turn g k rest l =
    let w = got_within g k l in
    subst (λ (o : Option ℕ). 0 < length (cons_option o rest)) (sym w.1) (let e : 0 < suc (length rest) = omega arith in e)

no_shorter : (o : Option ℕ) (rest : List ℕ) → 0 < length rest → 0 < length (cons_option o rest)
no_shorter None rest l = l
no_shorter (Some x) rest l = omega arith

large_turn : (often q i m : ℕ) → 4 < m → turn_of often q i m ≡ Some (i % m)
large_turn often q i m l = ap (λ (b : Bool). if b then Some (i % m) else (if i % often == q % often then Some (i / often % m) else None)) (lt-ltb 4 m l)

-- of a large sub-table a section stands in each lead,
large_leads : (often i q : ℕ) (gs : List (List ℕ)) → 4 < most_sections gs → 0 < length (lead_from often i q gs)
large_leads often i q [] l = absurd (omega arith)
large_leads often i q (g ∷ gs) l = go (lt_or 4 (length g)) (large_leads often i (suc q) gs)
  where
    go : (4 < length g) ⊎ (length g ≤ 4) → (4 < most_sections gs → 0 < length (lead_from often i (suc q) gs)) → 0 < length (lead_from often i q (g ∷ gs))
    go (inl m) h =
        subst (λ (o : Option ℕ). 0 < length (cons_option (in_turn g o) (lead_from often i (suc q) gs))) (sym (large_turn often q i (length g) m))
        (with_turn g (i % length g) (lead_from often i (suc q) gs) (omega arith))
    go (inr m) h = no_shorter (in_turn g (turn_of often q i (length g))) (lead_from often i (suc q) gs) (h (omega arith))

-- and where there is none, of the first one
small_leads : (i : ℕ) (g : List ℕ) (gs : List (List ℕ)) → 0 < length g → length g ≤ 4 → 0 < length (lead_from 1 i 0 (g ∷ gs))
small_leads i g gs some few =
    let m = length g in
    let none : i % 1 ≡ 0 % 1 = omega arith in
    let turn : turn_of 1 0 i m ≡ Some (i / 1 % m) =
    ap (λ (b : Bool). if b then Some (i % m) else (if i % 1 == 0 % 1 then Some (i / 1 % m) else None)) (le-ltb 4 m few)
    ∙ ap (λ (n : ℕ). if n == 0 % 1 then Some (i / 1 % m) else None) none in
    subst (λ (o : Option ℕ). 0 < length (cons_option (in_turn g o) (lead_from 1 i 1 gs))) (sym turn) (with_turn g (i / 1 % m) (lead_from 1 i 1 gs) (omega arith))

pub leads_some : (gs : List (List ℕ)) → 0 < length gs → AllSome gs → (i : ℕ) → i < length (leads_of gs) → 0 < length (lead_at (leads_of gs) i)
leads_some [] some each i l = absurd (omega arith)
leads_some (g ∷ gs) some each i l =
    let n = most_sections (g ∷ gs) in
    let within = subst (λ (m : ℕ). i < m) (leads_length (g ∷ gs)) l in
    subst (λ (lead : List ℕ). 0 < length lead) (sym (lead_is (g ∷ gs) i within)) (go (lt_or 4 n))
  where
    go : (4 < most_sections (g ∷ gs)) ⊎ (most_sections (g ∷ gs) ≤ 4) → 0 < length (lead_from (often_of (most_sections (g ∷ gs))) i 0 (g ∷ gs))
    go (inl m) = large_leads (often_of (most_sections (g ∷ gs))) i 0 (g ∷ gs) m
    go (inr m) =
        let one : 1 ≡ often_of (most_sections (g ∷ gs)) = omega arith in
        let here = each.0 in
        subst (λ (often : ℕ). 0 < length (lead_from often i 0 (g ∷ gs))) one (small_leads i g gs here (omega arith))

-- there is a lead
pub round_some : (gs : List (List ℕ)) → 0 < length gs → AllSome gs → 0 < length (leads_of gs)
round_some [] some each = absurd (omega arith)
round_some (g ∷ gs) some each =
    let n = most_sections (g ∷ gs) in
    let here = each.0 in
    let t = each_has_turn n 0 n 0 (omega arith) (omega arith) in
    let l = t.in_round in
    let size = leads_length (g ∷ gs) in
    omega arith

pub measured_some : (ss : List Paced) (gs : List (List ℕ)) → 0 < length gs → AllSome gs → (0 < (measure ss gs).often) × (0 < (measure ss gs).round)
measured_some ss gs some each =
    let size = leads_length gs in
    let l = round_some gs some each in
    (omega arith, omega arith)

-- ---- the sections of leads and body

pub within_at : (n : ℕ) (xs : List ℕ) (k : ℕ) → AllByRecursion (λ (x : ℕ). x < n) xs → k < length xs → slice_index xs k < n
within_at n [] k all l = absurd (omega arith)
within_at n (x ∷ xs) zero all l = all.0
within_at n (x ∷ xs) (suc k) all l = within_at n xs k all.1 (omega arith)

pub leads_within_at : (n : ℕ) (gs : List (List ℕ)) (i k : ℕ) → AllByRecursion (AllByRecursion (λ (x : ℕ). x < n)) gs → k < length (lead_at (leads_of gs) i)
    → slice_index (lead_at (leads_of gs) i) k < n
leads_within_at n gs i k all l =
    within_at n (lead_at (leads_of gs) i) k (all_or (AllByRecursion (λ (x : ℕ). x < n)) (leads_of gs) [] i (all_leads (λ (x : ℕ). x < n) gs all) tt) l

-- ---- the span

less_div : (a b c d : ℕ) → span_within a b c d ≤ a
less_div a b c d = let l = div-le_self (a - b) c in omega arith

span_small : (rate : ℕ) (l : Leads) → rate < 4294967296 → l.most < 4294967296 → span_at rate l < 4611686018427387904
span_small rate l small few =
    let half = less_div (half_second rate) (1 + gap_at rate + l.first) l.often (gap_at rate) in
    omega arith

pub is_plan : (rate : ℕ) (ss : List Paced) (gs : List (List ℕ)) (body : List ℕ) → AreNumbered ss → 0 < length gs → AllSome gs
    → AllByRecursion (AllByRecursion (IsWithin ss)) gs → AllByRecursion (IsWithin ss) body
    → rate < 4294967296 → (measure ss gs).most < 4294967296 → IsPlan (plan_with rate ss gs body) (length ss)
is_plan rate ss gs body are some each groups of_body small few = record {
  tables_are = are.tables;
  lens_are = are.lens;
  some = leads_some gs some each;
  leads_are = λ i k within at. leads_within_at (length ss) gs i k groups at;
  body_is = λ k at. within_at (length ss) body k of_body at;
  span_is = span_small rate (measure ss gs) small few;
}

-- ---- how many sections a cycle has

few_timings : (f : Planned) (rate : ℕ) → length (timings_with rate f) ≤ most_timings (length f.body) (length f.leads) (most_sections f.leads)
few_timings f rate =
    let p = place_at (gap_at rate) in
    let long = plans_are_long f p in
    let lens = map (λ (lead : List ℕ). length lead) f.leads in
    let each = all_of_map (λ (n : ℕ). n ≤ most_sections f.leads) (λ (lead : List ℕ). length lead) f.leads (largest_least lens) in
    let short = frames_are_short (framed_of f) (most_sections f.leads) (length f.leads)
    (λ j. all_or (λ (lead : List ℕ). length lead ≤ most_sections f.leads) f.leads [] (j % length f.leads) each (omega arith))
    (λ j. omega arith) 0 p f.body in
    omega arith

pub can_count_all : (f : Planned) (rate most : ℕ) → rate < 4294967296 → most ≡ most_sections f.leads → most_timings (length f.body) (length f.leads) most < 2 ^ 29 - 1
    → CanCount (gap_at rate) (timings_with rate f)
can_count_all f rate most small is few =
    let l = few_timings f rate in
    let same : most_timings (length f.body) (length f.leads) most ≡ most_timings (length f.body) (length f.leads) (most_sections f.leads) = ap (most_timings (length f.body) (length f.leads)) is in
    let bound : length (timings_with rate f) < 536870911 = omega arith in
    omega arith
