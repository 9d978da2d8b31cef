use Rattle.std.proofs.Common.{◌≡◌, ◌<◌, List, sym, ap, ◌∙◌, subst}
use Rattle.std.specs.Prelude.{IsTrue, ◌↔◌, count_by}
use Rattle.std.specs.List.{AllByRecursion}
use Rattle.std.proofs.lemmas.List.Elements.{All-from_recursion, recursion_from_All}
use Rattle.section_codec.specs.SubTables.{IsFit}
use Rattle.version_book.specs.Airings.{AiredTables}
use Rattle.air_model.specs.Sections.{is_fast}
use Rattle.air_timing.specs.PlanView.{left_of}
use Rattle.air_timing.specs.Rate.{IsRightSpan}
use Rattle.air_timing.specs.declared.span.Leads.{Leads}
use Rattle.cycle_timing.specs.Again.{IsRight, leads_in}
use Rattle.cycle_timing.specs.Leads.{measure}
use Rattle.cycle_timing.specs.Planning.{fast_groups, timings_of}
use Rattle.cycle_timing.specs.declared.listed.Listed.{Listed}
use Rattle.cycle_timing.specs.declared.plan.TimedPlan.{TimedPlan}
use Rattle.cycle_timing.specs.Listing.{listed_under, paced_under, HasRange, IsSized}
use Rattle.cycle_timing.specs.Plans.{plan_under, tiers_under, timings_with}
use Rattle.cycle_timing.proofs.Airing.{timings_given, right_given, leads_given, all_sized, some_fast}
use Rattle.cycle_timing.proofs.Opening.{if_ok}
use Rattle.cycle_timing.proofs.plan.plan_timed.Goals as goal

pub list_sections-requires-clause-fit : goal.list_sections-requires-clause-fit
list_sections-requires-clause-fit c = c.requires.fit.each

pub plan_listed-requires-clause-sized : goal.plan_listed-requires-clause-sized
plan_listed-requires-clause-sized c =
    let ts = c.args.tables.now in
    let os = c.args.offsets.now in
    let are : c.as_slice.result.now ≡ listed_under ts os = c.as_slice.ensures.value ∙ c.in_ok-listed.ensures.listed in
    All-from_recursion IsSized c.as_slice.result.now (subst (AllByRecursion IsSized) (sym are) (all_sized ts os (recursion_from_All IsFit ts c.requires.fit.each) c.requires.offsets))

pub plan_listed-requires-clause-some : goal.plan_listed-requires-clause-some
plan_listed-requires-clause-some c =
    let ts = c.args.tables.now in
    let os = c.args.offsets.now in
    let are : c.as_slice.result.now ≡ listed_under ts os = c.as_slice.ensures.value ∙ c.in_ok-listed.ensures.listed in
    subst (λ (ls : List Listed). 0 < count_by (λ (l : Listed). is_fast l.tier) ls) (sym are) (some_fast ts os)

pub returns-clause-frames : goal.returns-clause-frames
returns-clause-frames c =
    let ts = c.args.tables.now in
    let os = c.args.offsets.now in
    let rate = c.args.rate in
    let fit = recursion_from_All IsFit ts c.requires.fit.each in
    let small = recursion_from_All HasRange ts c.in_ok-listed.ensures.ranges in
    let are : c.as_slice.result.now ≡ listed_under ts os = c.as_slice.ensures.value ∙ c.in_ok-listed.ensures.listed in
    if_ok (λ (plan : TimedPlan). left_of plan.frames ≡ timings_with rate (plan_under rate c.as_slice.result.now))
    (λ (plan : TimedPlan). (past : List AiredTables) (a : AiredTables) → a.tables ≡ ts → a.form.offsets ≡ os → left_of plan.frames ≡ timings_of rate past a)
    c.plan_listed.result
    (λ plan h past a t o. h ∙ ap (λ (ls : List Listed). timings_with rate (plan_under rate ls)) are ∙ timings_given rate past a ts os t o fit small)
    c.plan_listed.ensures.frames

pub returns-clause-right : goal.returns-clause-right
returns-clause-right c =
    let ts = c.args.tables.now in
    let os = c.args.offsets.now in
    let rate = c.args.rate in
    let fit = recursion_from_All IsFit ts c.requires.fit.each in
    let small = recursion_from_All HasRange ts c.in_ok-listed.ensures.ranges in
    let are : c.as_slice.result.now ≡ listed_under ts os = c.as_slice.ensures.value ∙ c.in_ok-listed.ensures.listed in
    let is_right : TimedPlan → List Listed → Type 0 = λ plan ls. IsTrue plan.is_right ↔ IsRightSpan rate (measure (paced_under ls) (fast_groups (paced_under ls) (tiers_under ls))) (plan_under rate ls).span in
    if_ok (λ (plan : TimedPlan). is_right plan c.as_slice.result.now)
    (λ (plan : TimedPlan). (past : List AiredTables) (a : AiredTables) → a.tables ≡ ts → a.form.offsets ≡ os → IsTrue plan.is_right ↔ IsRight rate past a)
    c.plan_listed.result
    (λ plan h past a t o. right_given rate past a ts os t o fit small plan.is_right (subst (is_right plan) are h))
    c.plan_listed.ensures.right

pub returns-clause-leads : goal.returns-clause-leads
returns-clause-leads c =
    let ts = c.args.tables.now in
    let os = c.args.offsets.now in
    let rate = c.args.rate in
    let fit = recursion_from_All IsFit ts c.requires.fit.each in
    let small = recursion_from_All HasRange ts c.in_ok-listed.ensures.ranges in
    let are : c.as_slice.result.now ≡ listed_under ts os = c.as_slice.ensures.value ∙ c.in_ok-listed.ensures.listed in
    let leads_are : List Listed → Leads = λ ls. measure (paced_under ls) (fast_groups (paced_under ls) (tiers_under ls)) in
    if_ok (λ (plan : TimedPlan). plan.leads ≡ leads_are c.as_slice.result.now)
    (λ (plan : TimedPlan). (past : List AiredTables) (a : AiredTables) → a.tables ≡ ts → a.form.offsets ≡ os → plan.leads ≡ leads_in rate past a)
    c.plan_listed.result
    (λ plan h past a t o. h ∙ ap leads_are are ∙ leads_given rate past a ts os t o fit small)
    c.plan_listed.ensures.leads
