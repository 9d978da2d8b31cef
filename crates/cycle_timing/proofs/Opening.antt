-- A plan that is opened.
use Rattle.std.proofs.Common.{◌≡◌, ℕ, ◌-◌, ◌<◌, List, length, refl, sym, ap, ap₂, ◌∙◌, subst}
use Rattle.std.specs.Prelude.{replicate, ◌^◌}
use Rattle.std.specs.List.{All, AllByRecursion}
use Rattle.std.specs.Result.{IfOk}
use Rattle.std.specs.Prelude.{Result, Ok, Err}
use Rattle.std.proofs.lemmas.List.{length-replicate}
use Rattle.std.proofs.lemmas.List.Elements.{recursion_from_All}
use Rattle.air_model.specs.Packing.{Packing, begun_at}
use Rattle.air_timing.specs.declared.pace.Paced.{Paced}
use Rattle.air_timing.specs.declared.pace.Spacing.{Spacing}
use Rattle.air_timing.specs.Pacing.{place_at}
use Rattle.air_timing.specs.PaceView.{Seen, place_of}
use Rattle.air_timing.specs.PlanView.{planned, IsPlan, CanCount}
use Rattle.air_timing.specs.Plan.{Planned, plan_of}
use Rattle.air_timing.specs.Rate.{gap_at, span_at}
use Rattle.cycle_timing.specs.Leads.{leads_of, most_sections, measure}
use Rattle.cycle_timing.specs.Plans.{plan_with, plan_from, timings_with, most_timings, AreNumbered, IsWithin}
use Rattle.cycle_timing.proofs.Framing.{AllSome, is_plan, can_count_all, round_some}
use Rattle.cycle_timing.proofs.Parts.{opened}

pub if_ok : {X E : Type 0} (P Q : X → Type 0) (r : Result X E) → ((x : X) → P x → Q x) → IfOk r P → IfOk r Q
if_ok P Q (Ok x) f h = f x h
if_ok P Q (Err e) f h = tt

-- ---- a round of leads, and the span of their frames

pub record IsRound (rate : ℕ) (ss : List Paced) (gs : List (List ℕ)) (body : List ℕ) (leads : List (List ℕ)) (span : ℕ) : Type 0 where
  pub numbered : AreNumbered ss
  pub some : 0 < length gs
  pub each : All (λ (g : List ℕ). 0 < length g) gs
  pub groups : AllByRecursion (AllByRecursion (IsWithin ss)) gs
  pub body_within : AllByRecursion (IsWithin ss) body
  pub rate_small : rate < 4294967296
  pub leads_are : leads ≡ leads_of gs
  pub span_is : span ≡ span_at rate (measure ss gs)
  pub small : (measure ss gs).most < 4294967296
  pub few : most_timings (length body) (length leads) (most_sections leads) < 2 ^ 29 - 1

module _ {rate : ℕ} {ss : List Paced} {gs : List (List ℕ)} {body : List ℕ} {leads : List (List ℕ)} {span : ℕ} (is : IsRound rate ss gs body leads span) where
  each_some : AllSome gs
  each_some = recursion_from_All (λ (g : List ℕ). 0 < length g) gs is.each

  pub round_is : plan_from rate ss leads body span ≡ plan_with rate ss gs body
  round_is = ap₂ (λ (a : List (List ℕ)) (n : ℕ). plan_from rate ss a body n) is.leads_are is.span_is

  pub round_opens : 0 < length leads
  round_opens = subst (λ (a : List (List ℕ)). 0 < length a) (sym is.leads_are) (round_some gs is.some each_some)

  pub round_plan : IsPlan (plan_from rate ss leads body span) (length ss)
  round_plan =
      subst (λ (f : Planned). IsPlan f (length ss)) (sym round_is)
      (is_plan rate ss gs body is.numbered is.some each_some is.groups is.body_within is.rate_small is.small)

  pub round_count : CanCount (gap_at rate) (timings_with rate (plan_from rate ss leads body span))
  round_count = can_count_all (plan_from rate ss leads body span) rate (most_sections leads) is.rate_small refl is.few

-- ---- a pace that is opened

pub record IsPaced (rate : ℕ) (s : Seen) (gap from tables many : ℕ) : Type 0 where
  pub gap_is : gap ≡ gap_at rate
  pub from_is : from ≡ gap
  pub packing : s.packing ≡ begun_at from
  pub free : s.free ≡ replicate tables 0
  pub kept : s.spacing ≡ record { gap = gap; least = 8 }
  pub tables_are : tables ≡ many

module _ {rate : ℕ} {s : Seen} {gap from tables many : ℕ} (is : IsPaced rate s gap from tables many) (ss : List Paced) (leads : List (List ℕ)) (body : List ℕ) (span : ℕ) where
  paced_is : planned ss leads body s.spacing span ≡ plan_from rate ss leads body span
  paced_is = ap (λ (b : Spacing). planned ss leads body b span) (is.kept ∙ ap (λ (n : ℕ). record { gap = n; least = 8 }) is.gap_is)

  place_is : place_of s ≡ place_at (gap_at rate)
  place_is = opened s from tables is.packing is.free ∙ ap place_at (is.from_is ∙ is.gap_is)

  pub paced_plans : plan_of (planned ss leads body s.spacing span) (place_of s) ≡ timings_with rate (plan_from rate ss leads body span)
  paced_plans = ap₂ plan_of paced_is place_is

  pub paced_plan : IsPlan (plan_from rate ss leads body span) many → IsPlan (planned ss leads body s.spacing span) (length s.free)
  paced_plan h =
      subst (λ (f : Planned). IsPlan f (length s.free)) (sym paced_is)
      (subst (IsPlan (plan_from rate ss leads body span)) (sym (ap length is.free ∙ length-replicate tables 0 ∙ is.tables_are)) h)

  pub paced_count : CanCount (gap_at rate) (timings_with rate (plan_from rate ss leads body span)) → CanCount s.packing.closed (plan_of (planned ss leads body s.spacing span) (place_of s))
  paced_count h =
      subst (CanCount s.packing.closed) (sym paced_plans)
      (subst (λ (n : ℕ). CanCount n (timings_with rate (plan_from rate ss leads body span))) (sym (ap (λ (p : Packing). p.closed) is.packing ∙ is.from_is ∙ is.gap_is)) h)
