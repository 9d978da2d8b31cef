use Rattle.std.proofs.Common.{arith}
use Rattle.std.proofs.lemmas.Grind.{common_steps}
use Rattle.table_bodies.proofs.Programs.{length-component}
use Rattle.table_bodies.proofs.pmt.put_component.Goals as goal

pub returns : goal.returns
returns c =
    let size = length-component c.args.component.now.language c.args.component.now.descriptors in
    grind (arith, common_steps, size)
