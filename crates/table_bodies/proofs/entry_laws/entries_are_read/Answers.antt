use Rattle.table_bodies.proofs.Whole as whole
use Rattle.table_bodies.proofs.entry_laws.entries_are_read.Goals as goal

pub returns : goal.returns
returns g c = whole.entries_are_read g.K.EntryKind.SIZE g.K.EntryKind.value_of
