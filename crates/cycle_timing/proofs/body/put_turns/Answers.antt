use Rattle.std.proofs.Common.{◌∙◌}
use Rattle.cycle_timing.proofs.Chunks.{turns_put}
use Rattle.cycle_timing.proofs.body.put_turns.Goals as goal

pub returns : goal.returns
returns c =
    turns_put c.args.sections.now c.args.from c.args.to c.args.order.now.items c.put_rounds.new.order.items c.as_slice.result.now
    (c.as_slice.ensures.value ∙ c.in_ok-groups.ensures) c.in_ok-put_rounds.ensures
