use Rattle.std.proofs.Common.{◌≡◌, ℕ, ◌-◌, ◌<◌, List, length, sym, ap, ◌∙◌, subst, arith}
use Rattle.std.specs.Prelude.{IsTrue, ◌↔◌, ◌^◌}
use Rattle.std.proofs.lemmas.List.Elements.{recursion_from_All}
use Rattle.air_timing.specs.declared.span.Leads.{Leads}
use Rattle.air_timing.specs.Rate.{IsRightSpan, span_at}
use Rattle.cycle_timing.specs.Leads.{leads_within, most_sections}
use Rattle.cycle_timing.specs.Plans.{most_timings}
use Rattle.cycle_timing.proofs.Framing.{measured_some}
use Rattle.cycle_timing.proofs.plan.plan_round.Goals as goal

pub measured-requires-clause-leads : goal.measured-requires-clause-leads
measured-requires-clause-leads c = c.as_slice.ensures.value ∙ c.in_ok-leads.ensures ∙ ap (λ (n : ℕ). leads_within n c.args.groups.now) c.in_ok-largest.ensures

pub span_at-span-requires-clause-often : goal.span_at-span-requires-clause-often
span_at-span-requires-clause-often c =
    let some = measured_some c.args.sections.now c.args.groups.now c.requires.some (recursion_from_All (λ (g : List ℕ). 0 < length g) c.args.groups.now c.requires.each) in
    subst (λ (l : Leads). 0 < l.often) (sym c.in_ok-measured.ensures.measured) some.0

pub span_at-span-requires-clause-round : goal.span_at-span-requires-clause-round
span_at-span-requires-clause-round c =
    let some = measured_some c.args.sections.now c.args.groups.now c.requires.some (recursion_from_All (λ (g : List ℕ). 0 < length g) c.args.groups.now c.requires.each) in
    subst (λ (l : Leads). 0 < l.round) (sym c.in_ok-measured.ensures.measured) some.1

pub returns-clause-leads : goal.returns-clause-leads
returns-clause-leads c = c.in_ok-leads.ensures ∙ ap (λ (n : ℕ). leads_within n c.args.groups.now) c.in_ok-largest.ensures

pub returns-clause-span : goal.returns-clause-span
returns-clause-span c = c.span_at-span.ensures.span ∙ ap (span_at c.args.rate) c.in_ok-measured.ensures.measured

pub returns-clause-right : goal.returns-clause-right
returns-clause-right c =
    subst (λ (l : Leads). IsTrue c.span_at-span.result.is_right ↔ IsRightSpan c.args.rate l c.span_at-span.result.packets) c.in_ok-measured.ensures.measured c.span_at-span.ensures.right

pub returns-clause-most : goal.returns-clause-most
returns-clause-most c = subst (λ (l : Leads). l.most < 4294967296) c.in_ok-measured.ensures.measured c.in_ok-measured.ensures.most

pub returns-clause-few : goal.returns-clause-few
returns-clause-few c =
    let size : c.len.result ≡ length c.in_ok-leads.leads.items = omega (arith, c.len.ensures, c.in_ok-leads.leads.ok.0) in
    let most = c.in_ok-most.ensures ∙ ap most_sections c.as_slice-2.ensures.value in
    subst (λ (n : ℕ). most_timings c.args.body n (most_sections c.in_ok-leads.leads.items) < 2 ^ 29 - 1) size
    (subst (λ (n : ℕ). most_timings c.args.body c.len.result n < 2 ^ 29 - 1) most (c.is_too_long.ensures c.if-is_too_long.false))
