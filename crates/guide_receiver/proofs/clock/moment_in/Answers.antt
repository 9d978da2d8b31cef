use Rattle.std.proofs.Common.{Some, sym, ap, ◌∙◌, arith}
use Rattle.guide_receiver.proofs.Latest.{moment_none, moment_some}
use Rattle.guide_receiver.proofs.clock.moment_in.Goals as goal

pub returns-in-Some : goal.returns-in-Some
returns-in-Some c =
    c.read_tdt.ensures.value
    ∙ moment_some c.args.raw.now c.in_ok-body.field-0 c.as_slice.result.now (grind arith) c.in_ok-body.ensures (c.in-Some.is ∙ ap Some (sym c.as_slice.ensures))

pub returns-in-None : goal.returns-in-None
returns-in-None c = moment_none c.args.raw.now c.in_ok-body.field-0 (grind arith) c.in_ok-body.ensures c.in-None.is
