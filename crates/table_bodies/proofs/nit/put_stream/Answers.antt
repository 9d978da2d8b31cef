use Rattle.std.proofs.Common.{arith}
use Rattle.std.proofs.lemmas.Grind.{common_steps}
use Rattle.table_bodies.proofs.Networks.{length-descriptors}
use Rattle.table_bodies.proofs.nit.put_stream.Goals as goal

pub returns : goal.returns
returns c =
    let size = length-descriptors c.args.stream.now.cable c.args.stream.now.services c.args.stream.now.descriptors in
    grind (arith, common_steps, size)
