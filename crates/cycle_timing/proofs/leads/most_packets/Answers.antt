use Rattle.std.proofs.Common.{ap, ◌∙◌}
use Rattle.cycle_timing.specs.Leads.{lead_packets}
use Rattle.cycle_timing.proofs.Leading.{largest_more}
use Rattle.cycle_timing.proofs.leads.most_packets.Goals as goal

pub loop-lead-preserved : goal.loop-lead-preserved
loop-lead-preserved c =
    c.max-most.ensures
    ∙ largest_more (lead_packets c.args.sections.now) c.args.leads.now c.loop-lead.lead-index c.lead-item.result c.loop-lead.most c.in_ok-lead_packets.field-0 c.loop-lead-test.true c.loop-lead.invariant
    (c.in_ok-lead_packets.ensures ∙ ap (lead_packets c.args.sections.now) (c.as_slice.ensures ∙ c.lead-item.is))
