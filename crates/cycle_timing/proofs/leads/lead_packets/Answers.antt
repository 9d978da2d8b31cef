use Rattle.std.proofs.Common.{◌+◌, ℕ, ap, ◌∙◌}
use Rattle.cycle_timing.proofs.Leading.{packets_more}
use Rattle.cycle_timing.proofs.leads.lead_packets.Goals as goal

pub loop-index-preserved : goal.loop-index-preserved
loop-index-preserved c =
    packets_more c.args.sections.now c.args.lead.now c.loop-index.index-index 0 c.loop-index.packets c.in_ok-packets.packets c.loop-index-test.true c.loop-index.invariant
    (c.in_ok-packets.ensures ∙ ap (λ (n : ℕ). c.loop-index.packets + n) c.packets_at.ensures)
