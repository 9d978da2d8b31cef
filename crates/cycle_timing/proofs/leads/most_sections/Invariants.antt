use Rattle.std.proofs.Common.{◌≡◌, take}
use Rattle.cycle_timing.specs.Leads.{most_sections}
use Rattle.cycle_timing.proofs.leads.most_sections.Given as goal

abbrev pub invariant-loop-group : goal.invariant-loop-group
invariant-loop-group l = l.most ≡ most_sections (take l.group-index l.groups)
