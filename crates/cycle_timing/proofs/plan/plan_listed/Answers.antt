use Rattle.std.proofs.Common.{◌≡◌, ℕ, ◌<◌, List, length, sym, ap, ap₂, ◌∙◌, subst, arith}
use Rattle.std.specs.Prelude.{IsTrue, ◌↔◌}
use Rattle.std.specs.List.{All}
use Rattle.std.proofs.lemmas.List.{length-map}
use Rattle.air_model.specs.Cursor.{upto}
use Rattle.air_timing.specs.declared.pace.Paced.{Paced}
use Rattle.air_timing.specs.declared.span.Leads.{Leads}
use Rattle.air_timing.specs.PlanView.{left_of}
use Rattle.air_timing.specs.Rate.{IsRightSpan, span_at}
use Rattle.cycle_timing.specs.SubTables.{groups}
use Rattle.cycle_timing.specs.Leads.{measure}
use Rattle.cycle_timing.specs.Planning.{table_at, body_of, fast_groups}
use Rattle.cycle_timing.specs.declared.plan.TimedPlan.{TimedPlan}
use Rattle.cycle_timing.specs.Listing.{paced_as, paced_under}
use Rattle.cycle_timing.specs.Tiers.{tiers_of}
use Rattle.cycle_timing.specs.Plans.{plan_under, plan_with, tiers_under, timings_with, AreNumbered}
use Rattle.cycle_timing.proofs.Parts.{AreTiers, numbered, each_some, some_groups, sizes_length, tiers_within, plan_is, groups_are, groups_within, body_within}
use Rattle.cycle_timing.proofs.Opening.{if_ok}
use Rattle.cycle_timing.proofs.plan.plan_listed.Goals as goal

pub groups_of-requires-clause-bound : goal.groups_of-requires-clause-bound
groups_of-requires-clause-bound c =
    let ls = c.args.listed.now in
    let are : AreTiers ls c.count_fast-fasts.result c.count_near-nears.result c.in_ok-sizes.sizes.items = record { fasts_are = c.count_fast-fasts.ensures; nears_are = c.count_near-nears.ensures; sizes_are = c.in_ok-sizes.ensures } in
    let fit = tiers_within ls _ _ _ are in
    let size = sizes_length ls _ _ _ are in
    let long = ap length (c.as_slice.ensures.value ∙ c.in_ok-sections.ensures) ∙ length-map ls (paced_as ls) in
    omega arith

pub body_of-requires-clause-fit : goal.body_of-requires-clause-fit
body_of-requires-clause-fit c =
    let ls = c.args.listed.now in
    let are : AreTiers ls c.count_fast-fasts.result c.count_near-nears.result c.in_ok-sizes.sizes.items = record { fasts_are = c.count_fast-fasts.ensures; nears_are = c.count_near-nears.ensures; sizes_are = c.in_ok-sizes.ensures } in
    let fit = tiers_within ls _ _ _ are in
    let same = ap length c.as_slice-3.ensures.value in
    omega arith

pub body_of-requires-clause-sizes : goal.body_of-requires-clause-sizes
body_of-requires-clause-sizes c =
    let ls = c.args.listed.now in
    let are : AreTiers ls c.count_fast-fasts.result c.count_near-nears.result c.in_ok-sizes.sizes.items = record { fasts_are = c.count_fast-fasts.ensures; nears_are = c.count_near-nears.ensures; sizes_are = c.in_ok-sizes.ensures } in
    let size = sizes_length ls _ _ _ are in
    let long = ap length (c.as_slice-2.ensures.value ∙ c.in_ok-sections.ensures) ∙ length-map ls (paced_as ls) in
    let same = ap length c.as_slice-3.ensures.value in
    omega arith

pub plan_frames-requires-clause-sections : goal.plan_frames-requires-clause-sections
plan_frames-requires-clause-sections c = subst AreNumbered (sym c.in_ok-sections.ensures) (numbered c.args.listed.now c.requires.sized)

pub plan_frames-requires-clause-some : goal.plan_frames-requires-clause-some
plan_frames-requires-clause-some c =
    let table = table_at c.in_ok-sections.sections.items in
    let fasts = c.count_fast-fasts.result in
    let gs_are : c.as_slice-4.result.now ≡ groups table (upto 0 fasts) = c.as_slice-4.ensures.value ∙ c.in_ok-groups.ensures ∙ ap (λ (ss : List Paced). groups (table_at ss) (upto 0 fasts)) c.as_slice.ensures.value in
    let some = c.requires.some in
    let is = c.count_fast-fasts.ensures in
    subst (λ (gs : List (List ℕ)). 0 < length gs) (sym gs_are) (some_groups table fasts (subst (λ (n : ℕ). 0 < n) (sym is) some))

pub plan_frames-requires-clause-each : goal.plan_frames-requires-clause-each
plan_frames-requires-clause-each c =
    let table = table_at c.in_ok-sections.sections.items in
    let fasts = c.count_fast-fasts.result in
    let gs_are : c.as_slice-4.result.now ≡ groups table (upto 0 fasts) = c.as_slice-4.ensures.value ∙ c.in_ok-groups.ensures ∙ ap (λ (ss : List Paced). groups (table_at ss) (upto 0 fasts)) c.as_slice.ensures.value in
    subst (All (λ (g : List ℕ). 0 < length g)) (sym gs_are) (each_some table fasts)

pub plan_frames-requires-clause-groups : goal.plan_frames-requires-clause-groups
plan_frames-requires-clause-groups c =
    let ls = c.args.listed.now in
    let are : AreTiers ls c.count_fast-fasts.result c.count_near-nears.result c.in_ok-sizes.sizes.items = record { fasts_are = c.count_fast-fasts.ensures; nears_are = c.count_near-nears.ensures; sizes_are = c.in_ok-sizes.ensures } in
    let fasts = c.count_fast-fasts.result in
    let gs_are : c.as_slice-4.result.now ≡ groups (table_at c.in_ok-sections.sections.items) (upto 0 fasts) = c.as_slice-4.ensures.value ∙ c.in_ok-groups.ensures ∙ ap (λ (ss : List Paced). groups (table_at ss) (upto 0 fasts)) c.as_slice.ensures.value in
    groups_within ls _ _ _ are c.in_ok-sections.sections.items c.as_slice-4.result.now c.in_ok-sections.ensures gs_are

pub plan_frames-requires-clause-body : goal.plan_frames-requires-clause-body
plan_frames-requires-clause-body c =
    let ls = c.args.listed.now in
    let fasts = c.count_fast-fasts.result in
    let nears = c.count_near-nears.result in
    let are : AreTiers ls fasts nears c.in_ok-sizes.sizes.items = record { fasts_are = c.count_fast-fasts.ensures; nears_are = c.count_near-nears.ensures; sizes_are = c.in_ok-sizes.ensures } in
    let body_is = c.in_ok-body.ensures ∙ ap₂ (λ (ss : List Paced) (zs : List ℕ). body_of ss (tiers_of fasts nears zs)) c.as_slice-2.ensures.value c.as_slice-3.ensures.value in
    body_within ls _ _ _ are c.in_ok-sections.sections.items c.in_ok-body.body.items c.in_ok-sections.ensures body_is

pub returns-clause-frames : goal.returns-clause-frames
returns-clause-frames c =
    let ls = c.args.listed.now in
    let rate = c.args.rate in
    let ss = c.in_ok-sections.sections.items in
    let fasts = c.count_fast-fasts.result in
    let nears = c.count_near-nears.result in
    let are : AreTiers ls fasts nears c.in_ok-sizes.sizes.items = record { fasts_are = c.count_fast-fasts.ensures; nears_are = c.count_near-nears.ensures; sizes_are = c.in_ok-sizes.ensures } in
    let gs_are : c.as_slice-4.result.now ≡ groups (table_at ss) (upto 0 fasts) = c.as_slice-4.ensures.value ∙ c.in_ok-groups.ensures ∙ ap (λ (us : List Paced). groups (table_at us) (upto 0 fasts)) c.as_slice.ensures.value in
    let body_is = c.in_ok-body.ensures ∙ ap₂ (λ (us : List Paced) (zs : List ℕ). body_of us (tiers_of fasts nears zs)) c.as_slice-2.ensures.value c.as_slice-3.ensures.value in
    let same = plan_is ls _ _ _ are rate ss c.as_slice-4.result.now c.in_ok-body.body.items c.in_ok-sections.ensures gs_are body_is in
    if_ok (λ (plan : TimedPlan). left_of plan.frames ≡ timings_with rate (plan_with rate ss c.as_slice-4.result.now c.in_ok-body.body.items))
    (λ (plan : TimedPlan). left_of plan.frames ≡ timings_with rate (plan_under rate ls))
    c.plan_frames.result (λ plan h. h ∙ ap (timings_with rate) same) c.plan_frames.ensures.frames

pub returns-clause-right : goal.returns-clause-right
returns-clause-right c =
    let ls = c.args.listed.now in
    let rate = c.args.rate in
    let ss = c.in_ok-sections.sections.items in
    let fasts = c.count_fast-fasts.result in
    let nears = c.count_near-nears.result in
    let are : AreTiers ls fasts nears c.in_ok-sizes.sizes.items = record { fasts_are = c.count_fast-fasts.ensures; nears_are = c.count_near-nears.ensures; sizes_are = c.in_ok-sizes.ensures } in
    let gs_are : c.as_slice-4.result.now ≡ groups (table_at ss) (upto 0 fasts) = c.as_slice-4.ensures.value ∙ c.in_ok-groups.ensures ∙ ap (λ (us : List Paced). groups (table_at us) (upto 0 fasts)) c.as_slice.ensures.value in
    let measured = ap₂ measure c.in_ok-sections.ensures (groups_are ls _ _ _ are ss c.as_slice-4.result.now c.in_ok-sections.ensures gs_are) in
    let is_right : TimedPlan → Leads → Type 0 = λ plan l. IsTrue plan.is_right ↔ IsRightSpan rate l (span_at rate l) in
    if_ok (λ (plan : TimedPlan). is_right plan (measure ss c.as_slice-4.result.now)) (λ (plan : TimedPlan). is_right plan (measure (paced_under ls) (fast_groups (paced_under ls) (tiers_under ls))))
    c.plan_frames.result (λ plan h. subst (is_right plan) measured h) c.plan_frames.ensures.right

pub returns-clause-leads : goal.returns-clause-leads
returns-clause-leads c =
    let ls = c.args.listed.now in
    let ss = c.in_ok-sections.sections.items in
    let fasts = c.count_fast-fasts.result in
    let nears = c.count_near-nears.result in
    let are : AreTiers ls fasts nears c.in_ok-sizes.sizes.items = record { fasts_are = c.count_fast-fasts.ensures; nears_are = c.count_near-nears.ensures; sizes_are = c.in_ok-sizes.ensures } in
    let gs_are : c.as_slice-4.result.now ≡ groups (table_at ss) (upto 0 fasts) = c.as_slice-4.ensures.value ∙ c.in_ok-groups.ensures ∙ ap (λ (us : List Paced). groups (table_at us) (upto 0 fasts)) c.as_slice.ensures.value in
    let measured = ap₂ measure c.in_ok-sections.ensures (groups_are ls _ _ _ are ss c.as_slice-4.result.now c.in_ok-sections.ensures gs_are) in
    if_ok (λ (plan : TimedPlan). plan.leads ≡ measure ss c.as_slice-4.result.now) (λ (plan : TimedPlan). plan.leads ≡ measure (paced_under ls) (fast_groups (paced_under ls) (tiers_under ls)))
    c.plan_frames.result (λ plan h. h ∙ measured) c.plan_frames.ensures.leads
