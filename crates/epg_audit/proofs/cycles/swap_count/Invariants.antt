use Rattle.std.proofs.Common.{◌≡◌, ◌≤◌, length, take}
use Rattle.desk_core.specs.Publications.{swaps}
use Rattle.epg_audit.proofs.cycles.swap_count.Given as goal

abbrev pub invariant-loop-entry : goal.invariant-loop-entry
invariant-loop-entry l = (l.count ≡ length (swaps (take l.entry-index l.entries))) × (l.count ≤ l.entry-index)
