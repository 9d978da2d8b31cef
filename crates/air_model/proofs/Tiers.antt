-- What stands in the chunks, the body and the runs of a cycle.
use Rattle.std.proofs.Common.{◌≡◌, ℕ, zero, suc, ◌+◌, ◌<◌, ◌≤◌, List, [], ◌∷◌, refl, sym, ap, ◌∙◌, subst, arith}
use Rattle.std.specs.List.{AllByRecursion}
use Rattle.si_lists.proofs.Lists.{all_behind}
use Rattle.section_codec.specs.Contents.{numbers_from}
use Rattle.air_model.specs.Cutting.{packets_in, cut, joined, IsPart, AreParts}
use Rattle.air_model.specs.Cycle.{Planned, at_least_one, near_of, far_of, chunks_of, body_of, runs_of}
use Rattle.air_model.specs.Spacing.{IsWithinLimits}
use Rattle.air_model.proofs.Lists.{packets-append, all-numbers}
use Rattle.air_model.proofs.Leads.{all-parts, all-led}
use Rattle.air_model.proofs.Cuts.{joined-cut_from, is_cut}

joined-one : (parts : List (List ℕ)) → joined (at_least_one parts) ≡ joined parts
joined-one [] = refl
joined-one (c ∷ parts) = refl

pub chunks_joined : (p : Planned) → joined (chunks_of p) ≡ far_of p
chunks_joined p = let n = packets_in p.size (near_of p) in joined-one (cut p.size n (far_of p)) ∙ joined-cut_from p.size n n (far_of p)

pub runs_joined : (p : Planned) → joined (runs_of p) ≡ body_of p
runs_joined p = joined-one (cut p.size p.quota (body_of p)) ∙ joined-cut_from p.size p.quota p.quota (body_of p)

-- What holds of all Near and Far sections holds of all in the chunks, the runs and the body.
pub record Tiers (P : ℕ → Type 0) (p : Planned) : Type 0 where
  pub chunks : AllByRecursion (AllByRecursion P) (chunks_of p)
  pub runs : AllByRecursion (AllByRecursion P) (runs_of p)
  pub whole : AllByRecursion P (body_of p)

pub tiers : (P : ℕ → Type 0) (p : Planned) → ((i : ℕ) → p.fasts ≤ i → i < p.fasts + p.nears + p.fars → P i) → Tiers P p
tiers P p h =
    let near : AllByRecursion P (near_of p) = all-numbers P p.fasts p.nears (λ i l m. h i l (omega arith)) in
    let far : AllByRecursion P (far_of p) = all-numbers P (p.fasts + p.nears) p.fars (λ i l m. h i (omega arith) (omega arith)) in
    let chunks : AllByRecursion (AllByRecursion P) (chunks_of p) = all-parts P (chunks_of p) (subst (AllByRecursion P) (sym (chunks_joined p)) far) in
    let whole : AllByRecursion P (body_of p) = all-led P (near_of p) (chunks_of p) near chunks in
    record { chunks = chunks; runs = all-parts P (runs_of p) (subst (AllByRecursion P) (sym (runs_joined p)) whole); whole = whole }

-- ---- parts of small sections

all-one : (P : List ℕ → Type 0) (parts : List (List ℕ)) → P [] → AllByRecursion P parts → AllByRecursion P (at_least_one parts)
all-one P [] e h = (e, tt)
all-one P (c ∷ parts) e h = h

small_part : (size : ℕ → ℕ) (wanted : ℕ) (c : List ℕ) → IsPart size wanted c → AllByRecursion (λ (i : ℕ). size i ≤ 23) c → packets_in size c ≤ wanted + 22
small_part size wanted c is h =
    let b = is.below in
    let e = ap (packets_in size) is.are in
    let a = packets-append size is.front (is.last ∷ []) in
    let l : size is.last ≤ 23 = (all_behind (λ (i : ℕ). size i ≤ 23) is.front (is.last ∷ []) (subst (AllByRecursion (λ (i : ℕ). size i ≤ 23)) is.are h)).0 in
    omega arith

small_parts : (size : ℕ → ℕ) (least : ℕ) (parts : List (List ℕ)) → AreParts size least least parts → AllByRecursion (AllByRecursion (λ (i : ℕ). size i ≤ 23)) parts → AllByRecursion (λ (c : List ℕ). packets_in size c ≤ least + 22) parts
small_parts size least [] is h = tt
small_parts size least (c ∷ []) is h = (small_part size least c is.0 h.0, tt)
small_parts size least (c ∷ d ∷ parts) is h = (small_part size least c is.0 h.0, small_parts size least (d ∷ parts) is.2 h.1)

small_cut : (size : ℕ → ℕ) (least : ℕ) (xs : List ℕ) → 0 < least → AllByRecursion (λ (i : ℕ). size i ≤ 23) xs → AllByRecursion (λ (c : List ℕ). packets_in size c ≤ least + 22) (at_least_one (cut size least xs))
small_cut size least xs l h =
    let is = is_cut size least xs l in
    all-one (λ (c : List ℕ). packets_in size c ≤ least + 22) (cut size least xs) (omega arith)
    (small_parts size least (cut size least xs) is.each (all-parts (λ (i : ℕ). size i ≤ 23) (cut size least xs) (subst (AllByRecursion (λ (i : ℕ). size i ≤ 23)) (sym is.joined_are) h)))

-- a run has fewer packets than the quota and 23,
pub small_runs : (p : Planned) → IsWithinLimits p → AllByRecursion (λ (c : List ℕ). packets_in p.size c ≤ p.quota + 22) (runs_of p)
small_runs p is = small_cut p.size p.quota (body_of p) is.some_quota (tiers (λ (i : ℕ). p.size i ≤ 23) p (λ i l m. (is.sized i m).1)).whole

packets_some : (size : ℕ → ℕ) (a k : ℕ) → 0 < k → 0 < size a → 0 < packets_in size (numbers_from a k)
packets_some size a zero h l = absurd (omega arith)
packets_some size a (suc k) h l = omega arith

-- a chunk fewer than Near and 23
pub small_chunks : (p : Planned) → IsWithinLimits p → 0 < p.nears → AllByRecursion (λ (c : List ℕ). packets_in p.size c ≤ packets_in p.size (near_of p) + 22) (chunks_of p)
small_chunks p is some =
    let l : 0 < p.size p.fasts = (is.sized p.fasts (omega arith)).0 in
    small_cut p.size (packets_in p.size (near_of p)) (far_of p) (packets_some p.size p.fasts p.nears some l)
    (all-numbers (λ (i : ℕ). p.size i ≤ 23) (p.fasts + p.nears) p.fars (λ i l m. (is.sized i (omega arith)).1))
