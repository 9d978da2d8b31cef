use Rattle.std.proofs.Common.{◌≡◌, ◌≤◌, length, take}
use Rattle.epg_soak.specs.Journals.{edits_in}
use Rattle.epg_soak.proofs.summary.edit_count.Given as goal

abbrev pub invariant-loop-entry : goal.invariant-loop-entry
invariant-loop-entry l = (l.count ≡ length (edits_in (take l.entry-index l.entries))) × (l.count ≤ l.entry-index)
