use Rattle.std.proofs.Common.{ap, ◌∙◌, length, arith}
use Rattle.time_tables.proofs.Loops.{length-tot_body}
use Rattle.time_tables.proofs.tot.write_tot.Goals as goal

pub write_short_crc-requires-clause-within : goal.write_short_crc-requires-clause-within
write_short_crc-requires-clause-within c =
    omega (arith, ap length (c.deref.ensures.value ∙ c.in_ok-body.ensures), length-tot_body c.args.at.0 c.args.offsets.now c.requires.offsets.each, c.requires.offsets.few)
