use Rattle.std.proofs.Common.{arith}
use Rattle.std.proofs.lemmas.Grind.{common_steps}
use Rattle.table_bodies.proofs.Networks.{length-streams}
use Rattle.table_bodies.proofs.nit.write_nit.Goals as goal

pub overflow_cast-len : goal.overflow_cast-len
overflow_cast-len c =
    let size = length-streams c.args.nit.now.streams in
    grind (arith, common_steps, size)

pub overflow_add-len : goal.overflow_add-len
overflow_add-len c =
    let size = length-streams c.args.nit.now.streams in
    grind (arith, common_steps, size)
