use Rattle.std.proofs.Common.{arith}
use Rattle.std.proofs.lemmas.Grind.{common_steps}
use Rattle.table_bodies.proofs.Services.{length-service_descriptors}
use Rattle.table_bodies.proofs.sdt.put_service.Goals as goal

pub overflow_cast-len : goal.overflow_cast-len
overflow_cast-len c =
    let size = length-service_descriptors c.args.service.now in
    grind (arith, common_steps, size)

pub overflow_add-len : goal.overflow_add-len
overflow_add-len c =
    let size = length-service_descriptors c.args.service.now in
    grind (arith, common_steps, size)
