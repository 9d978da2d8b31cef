use Rattle.std.proofs.Common.{◌<◌, ◌*◌, ◌%◌, ap, ◌∙◌, arith}
use Rattle.std.specs.Prelude.{bit_xor}
use Rattle.si_base.proofs.Remainder.{byte_step}
use Rattle.si_base.proofs.crc.one.Goals as goal

pub returns : goal.returns
returns c =
    let crc : c.args.crc < 4294967296 = omega arith in
    let byte : c.args.b < 256 = omega arith in
    ap (λ n. bit_xor ((c.args.crc * 256) % 4294967296) n) c.zeros_0.ensures ∙ byte_step c.args.crc c.args.b crc byte
