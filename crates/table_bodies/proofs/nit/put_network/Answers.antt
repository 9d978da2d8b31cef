use Rattle.std.proofs.Common.{arith}
use Rattle.std.proofs.lemmas.Grind.{common_steps}
use Rattle.table_bodies.proofs.Networks.{length-network}
use Rattle.table_bodies.proofs.nit.put_network.Goals as goal

pub returns : goal.returns
returns c =
    let size = length-network c.args.nit.now.name c.args.nit.now.descriptors in
    grind (arith, common_steps, size)
