use Rattle.std.proofs.Common.{◌≡◌, ◌++◌, take}
use Rattle.guide_parts.specs.PartScreen.{program_ids}
use Rattle.guide_parts.proofs.listed.put_program_ids.Given as goal

abbrev pub invariant-loop-entry : goal.invariant-loop-entry
invariant-loop-entry l = l.ids.items ≡ l.fn.ids.items ++ program_ids (take l.entry-index l.programs)
