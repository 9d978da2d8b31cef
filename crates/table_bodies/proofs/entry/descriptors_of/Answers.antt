use Rattle.std.proofs.Common.{arith}
use Rattle.table_bodies.proofs.EntryWritten.{read_is}
use Rattle.table_bodies.proofs.entry.descriptors_of.Goals as goal

pub returns : goal.returns
returns c =
    read_is c.args.bytes.now (λ i. omega (arith, c.type_inv.bytes i)) c.read_descriptors.result c.read_descriptors.ensures.some
    c.read_descriptors.ensures.none
