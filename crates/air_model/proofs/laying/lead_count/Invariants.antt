use Rattle.std.proofs.Common.{◌≡◌, ◌+◌, drop}
use Rattle.std.specs.List.{prefix_len}
use Rattle.air_model.specs.Air.{leads}
use Rattle.air_model.proofs.laying.lead_count.Given as goal

-- all sub-tables so far lead
abbrev pub invariant-loop-table : goal.invariant-loop-table
invariant-loop-table l = (l.count ≡ l.table-index) × (prefix_len leads l.tables ≡ l.count + prefix_len leads (drop l.table-index l.tables))
