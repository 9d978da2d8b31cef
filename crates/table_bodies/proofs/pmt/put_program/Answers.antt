use Rattle.std.proofs.Common.{arith}
use Rattle.std.proofs.lemmas.Grind.{common_steps}
use Rattle.descriptors.proofs.Loops.{length-descriptors_bytes}
use Rattle.table_bodies.proofs.pmt.put_program.Goals as goal

pub returns : goal.returns
returns c =
    let size = length-descriptors_bytes c.args.pmt.now.descriptors in
    grind (arith, common_steps, size)
