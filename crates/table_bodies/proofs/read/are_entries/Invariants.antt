use Rattle.std.proofs.Common.{◌≡◌, length, is_some}
use Rattle.table_bodies.specs.Entries.{entries_in}
use Rattle.table_bodies.proofs.read.are_entries.Given as goal

-- the rest decides
abbrev pub invariant-loop-rest : goal.invariant-loop-rest
invariant-loop-rest g l =
    is_some (entries_in g.K.EntryKind.SIZE g.K.EntryKind.value_of l.bytes) ≡ is_some (entries_in g.K.EntryKind.SIZE g.K.EntryKind.value_of l.rest)

abbrev pub decreases-loop-rest : goal.decreases-loop-rest
decreases-loop-rest g l = length l.rest
