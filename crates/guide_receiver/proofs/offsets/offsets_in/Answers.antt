use Rattle.std.proofs.Common.{Some, option_map, sym, ap, ◌∙◌, arith}
use Rattle.time_tables.specs.declared.tot.Tot.{Tot}
use Rattle.guide_receiver.proofs.Latest.{offsets_none, offsets_some}
use Rattle.guide_receiver.proofs.offsets.offsets_in.Goals as goal

pub returns-in_default : goal.returns-in_default
returns-in_default c = offsets_none c.args.raw.now c.in_ok-body.field-0 (grind arith) c.in_ok-body.ensures c.in_default.is

pub returns-in-Some-2 : goal.returns-in-Some-2
returns-in-Some-2 c =
    sym (ap (option_map (λ (tot : Tot). tot.offsets)) c.in-Some-2.is)
    ∙ offsets_some c.args.raw.now c.in_ok-body.field-0 c.as_slice.result.now c.in_ok-tot.field-0 (grind arith) c.in_ok-body.ensures
    (c.in-Some.is ∙ ap Some (sym c.as_slice.ensures)) c.in_ok-tot.ensures.value

pub returns : goal.returns
returns c =
    sym (ap (option_map (λ (tot : Tot). tot.offsets)) c.in-None.is)
    ∙ offsets_some c.args.raw.now c.in_ok-body.field-0 c.as_slice.result.now c.in_ok-tot.field-0 (grind arith) c.in_ok-body.ensures
    (c.in-Some.is ∙ ap Some (sym c.as_slice.ensures)) c.in_ok-tot.ensures.value
