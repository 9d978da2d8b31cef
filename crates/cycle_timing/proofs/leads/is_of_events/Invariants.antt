use Rattle.std.proofs.Common.{◌≡◌, false, take}
use Rattle.cycle_timing.specs.Leads.{is_of_events}
use Rattle.cycle_timing.proofs.leads.is_of_events.Given as goal

abbrev pub invariant-loop-index : goal.invariant-loop-index
invariant-loop-index l = is_of_events l.sections (take l.index-index l.group) ≡ false
