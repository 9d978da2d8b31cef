use Rattle.std.proofs.Common.{arith}
use Rattle.si_base.proofs.Remainder.{block_step}
use Rattle.si_base.proofs.crc.eight.Goals as goal

pub returns : goal.returns
returns c =
    rw (c.before_eight.ensures, c.before_four.ensures, c.from_be_bytes-first.ensures, c.from_be_bytes-second.ensures)
    (block_step c.args.crc c.args.block.now c.requires (λ k. omega (arith, c.type_inv.block k)))
