use Rattle.std.proofs.Common.{◌≡◌, take}
use Rattle.table_bodies.specs.Pat.{pat_body}
use Rattle.table_bodies.proofs.pat.write_pat.Given as goal

abbrev pub invariant-loop-entry : goal.invariant-loop-entry
invariant-loop-entry l = l.out.items ≡ pat_body (take l.entry-index l.entries)
