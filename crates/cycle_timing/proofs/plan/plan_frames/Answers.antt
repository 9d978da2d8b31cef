use Rattle.std.proofs.Common.{◌≡◌, ℕ, ◌-◌, ◌<◌, List, length, ap, ◌∙◌, subst, arith}
use Rattle.std.specs.Prelude.{IsTrue, ◌↔◌, ◌^◌}
use Rattle.air_timing.specs.declared.pace.Paced.{Paced}
use Rattle.air_timing.specs.Rate.{IsRightSpan, span_at}
use Rattle.cycle_timing.specs.Leads.{measure, most_sections}
use Rattle.cycle_timing.specs.Plans.{most_timings, timings_with}
use Rattle.cycle_timing.proofs.Opening.{IsRound, round_is, round_opens, round_plan, round_count}
use Rattle.cycle_timing.proofs.plan.plan_frames.Goals as goal

pub open_frames-requires-clause-some : goal.open_frames-requires-clause-some
open_frames-requires-clause-some c =
    let is : IsRound c.args.rate c.args.sections.items c.args.groups.now c.args.body.items c.in_ok-round.round.leads.items c.in_ok-round.round.span.packets = record {
      numbered = c.requires.sections;
      some = c.requires.some;
      each = c.requires.each;
      groups = c.requires.groups;
      body_within = c.requires.body;
      rate_small = omega (arith, c.ranges.rate.fits);
      leads_are = c.in_ok-round.ensures.leads;
      span_is = c.in_ok-round.ensures.span ∙ ap (λ (ss : List Paced). span_at c.args.rate (measure ss c.args.groups.now)) c.as_slice.ensures.value;
      small = subst (λ (ss : List Paced). (measure ss c.args.groups.now).most < 4294967296) c.as_slice.ensures.value c.in_ok-round.ensures.most;
      few = subst (λ (n : ℕ). most_timings n (length c.in_ok-round.round.leads.items) (most_sections c.in_ok-round.round.leads.items) < 2 ^ 29 - 1) (let e : c.len.result ≡ length c.args.body.items = omega (arith, c.len.ensures, c.args.body.ok.0) in e) c.in_ok-round.ensures.few;
    } in
    round_opens is

pub open_frames-requires-clause-plan : goal.open_frames-requires-clause-plan
open_frames-requires-clause-plan c =
    let is : IsRound c.args.rate c.args.sections.items c.args.groups.now c.args.body.items c.in_ok-round.round.leads.items c.in_ok-round.round.span.packets = record {
      numbered = c.requires.sections;
      some = c.requires.some;
      each = c.requires.each;
      groups = c.requires.groups;
      body_within = c.requires.body;
      rate_small = omega (arith, c.ranges.rate.fits);
      leads_are = c.in_ok-round.ensures.leads;
      span_is = c.in_ok-round.ensures.span ∙ ap (λ (ss : List Paced). span_at c.args.rate (measure ss c.args.groups.now)) c.as_slice.ensures.value;
      small = subst (λ (ss : List Paced). (measure ss c.args.groups.now).most < 4294967296) c.as_slice.ensures.value c.in_ok-round.ensures.most;
      few = subst (λ (n : ℕ). most_timings n (length c.in_ok-round.round.leads.items) (most_sections c.in_ok-round.round.leads.items) < 2 ^ 29 - 1) (let e : c.len.result ≡ length c.args.body.items = omega (arith, c.len.ensures, c.args.body.ok.0) in e) c.in_ok-round.ensures.few;
    } in
    round_plan is

pub open_frames-requires-clause-count : goal.open_frames-requires-clause-count
open_frames-requires-clause-count c =
    let is : IsRound c.args.rate c.args.sections.items c.args.groups.now c.args.body.items c.in_ok-round.round.leads.items c.in_ok-round.round.span.packets = record {
      numbered = c.requires.sections;
      some = c.requires.some;
      each = c.requires.each;
      groups = c.requires.groups;
      body_within = c.requires.body;
      rate_small = omega (arith, c.ranges.rate.fits);
      leads_are = c.in_ok-round.ensures.leads;
      span_is = c.in_ok-round.ensures.span ∙ ap (λ (ss : List Paced). span_at c.args.rate (measure ss c.args.groups.now)) c.as_slice.ensures.value;
      small = subst (λ (ss : List Paced). (measure ss c.args.groups.now).most < 4294967296) c.as_slice.ensures.value c.in_ok-round.ensures.most;
      few = subst (λ (n : ℕ). most_timings n (length c.in_ok-round.round.leads.items) (most_sections c.in_ok-round.round.leads.items) < 2 ^ 29 - 1) (let e : c.len.result ≡ length c.args.body.items = omega (arith, c.len.ensures, c.args.body.ok.0) in e) c.in_ok-round.ensures.few;
    } in
    round_count is

pub returns-clause-frames : goal.returns-clause-frames
returns-clause-frames c =
    let is : IsRound c.args.rate c.args.sections.items c.args.groups.now c.args.body.items c.in_ok-round.round.leads.items c.in_ok-round.round.span.packets = record {
      numbered = c.requires.sections;
      some = c.requires.some;
      each = c.requires.each;
      groups = c.requires.groups;
      body_within = c.requires.body;
      rate_small = omega (arith, c.ranges.rate.fits);
      leads_are = c.in_ok-round.ensures.leads;
      span_is = c.in_ok-round.ensures.span ∙ ap (λ (ss : List Paced). span_at c.args.rate (measure ss c.args.groups.now)) c.as_slice.ensures.value;
      small = subst (λ (ss : List Paced). (measure ss c.args.groups.now).most < 4294967296) c.as_slice.ensures.value c.in_ok-round.ensures.most;
      few = subst (λ (n : ℕ). most_timings n (length c.in_ok-round.round.leads.items) (most_sections c.in_ok-round.round.leads.items) < 2 ^ 29 - 1) (let e : c.len.result ≡ length c.args.body.items = omega (arith, c.len.ensures, c.args.body.ok.0) in e) c.in_ok-round.ensures.few;
    } in
    c.in_ok-frames.ensures ∙ ap (timings_with c.args.rate) (round_is is)

pub returns-clause-right : goal.returns-clause-right
returns-clause-right c =
    let rate = c.args.rate in
    let b = c.in_ok-round.round.span.is_right in
    let is_right : List Paced → ℕ → Type 0 = λ ss n. IsTrue b ↔ IsRightSpan rate (measure ss c.args.groups.now) n in
    subst (λ (ss : List Paced). is_right ss (span_at rate (measure ss c.args.groups.now))) c.as_slice.ensures.value
    (subst (is_right c.as_slice.result.now) c.in_ok-round.ensures.span c.in_ok-round.ensures.right)

pub returns-clause-leads : goal.returns-clause-leads
returns-clause-leads c = c.in_ok-round.ensures.measured ∙ ap (λ (ss : List Paced). measure ss c.args.groups.now) c.as_slice.ensures.value
