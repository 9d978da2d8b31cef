use Rattle.std.proofs.Common.{length, ◌∙◌, arith}
use Rattle.cycle_timing.proofs.Opening.{IsPaced, paced_plans, paced_plan, paced_count}
use Rattle.cycle_timing.proofs.plan.open_frames.Goals as goal

pub open-requires-2-clause-plan : goal.open-requires-2-clause-plan
open-requires-2-clause-plan c =
    let is : IsPaced c.args.rate c.in_ok-pace.pace c.gap_at-gap.result c.from.result c.len.result (length c.args.sections.items) = record {
      gap_is = c.gap_at-gap.ensures;
      from_is = c.from.ensures;
      packing = c.in_ok-pace.ensures.packing;
      free = c.in_ok-pace.ensures.free;
      kept = c.in_ok-pace.ensures.spacing;
      tables_are = omega (arith, c.len.ensures, c.args.sections.ok.0);
    } in
    paced_plan is c.args.sections.items c.args.leads.items c.args.body.items c.args.span c.requires.plan

pub open-requires-2-clause-count : goal.open-requires-2-clause-count
open-requires-2-clause-count c =
    let is : IsPaced c.args.rate c.in_ok-pace.pace c.gap_at-gap.result c.from.result c.len.result (length c.args.sections.items) = record {
      gap_is = c.gap_at-gap.ensures;
      from_is = c.from.ensures;
      packing = c.in_ok-pace.ensures.packing;
      free = c.in_ok-pace.ensures.free;
      kept = c.in_ok-pace.ensures.spacing;
      tables_are = omega (arith, c.len.ensures, c.args.sections.ok.0);
    } in
    paced_count is c.args.sections.items c.args.leads.items c.args.body.items c.args.span c.requires.count

pub returns : goal.returns
returns c =
    let is : IsPaced c.args.rate c.in_ok-pace.pace c.gap_at-gap.result c.from.result c.len.result (length c.args.sections.items) = record {
      gap_is = c.gap_at-gap.ensures;
      from_is = c.from.ensures;
      packing = c.in_ok-pace.ensures.packing;
      free = c.in_ok-pace.ensures.free;
      kept = c.in_ok-pace.ensures.spacing;
      tables_are = omega (arith, c.len.ensures, c.args.sections.ok.0);
    } in
    c.open-2.ensures ∙ paced_plans is c.args.sections.items c.args.leads.items c.args.body.items c.args.span
