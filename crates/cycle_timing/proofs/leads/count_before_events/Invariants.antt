use Rattle.std.proofs.Common.{◌≡◌, ◌+◌, ℕ, List, drop}
use Rattle.std.specs.Prelude.{not}
use Rattle.std.specs.List.{prefix_len}
use Rattle.cycle_timing.specs.Leads.{is_of_events}
use Rattle.cycle_timing.proofs.leads.count_before_events.Given as goal

abbrev pub invariant-loop-group : goal.invariant-loop-group
invariant-loop-group l = record {
  at : l.count ≡ l.group-index;
  rest : l.count + prefix_len (λ (g : List ℕ). not (is_of_events l.sections g)) (drop l.group-index l.groups) ≡ prefix_len (λ (g : List ℕ). not (is_of_events l.sections g)) l.groups;
}
