use Rattle.std.proofs.Common.{◌≡◌, take}
use Rattle.cycle_timing.specs.Leads.{lead_packets}
use Rattle.cycle_timing.proofs.leads.lead_packets.Given as goal

abbrev pub invariant-loop-index : goal.invariant-loop-index
invariant-loop-index l = l.packets ≡ lead_packets l.sections (take l.index-index l.lead)
