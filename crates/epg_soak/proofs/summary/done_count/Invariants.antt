use Rattle.std.proofs.Common.{◌≡◌, ◌≤◌, length, take}
use Rattle.desk_core.specs.Journal.{accepted}
use Rattle.epg_soak.proofs.summary.done_count.Given as goal

abbrev pub invariant-loop-entry : goal.invariant-loop-entry
invariant-loop-entry l = (l.count ≡ length (accepted (take l.entry-index l.entries))) × (l.count ≤ l.entry-index)
