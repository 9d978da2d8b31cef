use Rattle.std.proofs.Common.{◌≡◌, length}
use Rattle.si_lists.proofs.Lists.{behind}
use Rattle.table_bodies.specs.Entries.{entries_in}
use Rattle.table_bodies.proofs.read.read_entries.Given as goal

-- the values so far stand before those of the rest
abbrev pub invariant-loop-rest : goal.invariant-loop-rest
invariant-loop-rest g l =
    entries_in g.K.EntryKind.SIZE g.K.EntryKind.value_of l.bytes ≡ behind l.values.items (entries_in g.K.EntryKind.SIZE g.K.EntryKind.value_of l.rest)

abbrev pub decreases-loop-rest : goal.decreases-loop-rest
decreases-loop-rest g l = length l.rest
