use Rattle.std.proofs.Common.{◌≡◌, take}
use Rattle.cycle_timing.specs.Leads.{most_packets}
use Rattle.cycle_timing.proofs.leads.most_packets.Given as goal

abbrev pub invariant-loop-lead : goal.invariant-loop-lead
invariant-loop-lead l = l.most ≡ most_packets l.sections (take l.lead-index l.leads)
