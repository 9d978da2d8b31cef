use Rattle.std.proofs.Common.{arith}
use Rattle.std.proofs.lemmas.Grind.{common_steps}
use Rattle.table_bodies.proofs.Services.{length-service_descriptors}
use Rattle.table_bodies.proofs.sdt.service_len.Goals as goal

pub returns : goal.returns
returns c =
    let size = length-service_descriptors c.args.service.now in
    grind (arith, common_steps, size)
