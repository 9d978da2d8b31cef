use Rattle.std.proofs.Common.{refl, arith}
use Rattle.time_tables.proofs.Loops.{goes_by}
use Rattle.time_tables.proofs.tot.told_within.Goals as goal

pub loop-rest-preserved : goal.loop-rest-preserved
loop-rest-preserved c =
    goes_by c.args.bytes.now c.loop-rest.told.items c.loop-rest.rest.now c.loop-rest.invariant c.in-len2-up.len_at_least _ refl _ _ refl c.from-len.ensures (omega (arith, c.if-behind-len.false)) _ _ _
    c.split_at.ensures.front c.split_at.ensures.back c.in_ok-put_told.ensures
