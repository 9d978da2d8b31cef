use Rattle.std.proofs.Common.{◌≡◌, take}
use Rattle.cycle_timing.specs.Leads.{lead_from}
use Rattle.cycle_timing.proofs.leads.lead_of.Given as goal

abbrev pub invariant-loop-group : goal.invariant-loop-group
invariant-loop-group l = record {
  at : l.at ≡ l.group-index;
  lead : l.lead ≡ lead_from l.often l.place 0 (take l.group-index l.groups);
}
