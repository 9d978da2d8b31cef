use Rattle.std.proofs.Common.{List, ◌++◌, ap, sym, ◌∙◌}
use Rattle.cycle_timing.specs.declared.listed.Listed.{Listed}
use Rattle.cycle_timing.proofs.Sizes.{tot_is}
use Rattle.cycle_timing.proofs.listed.put_tot.Goals as goal

pub returns : goal.returns
returns c =
    c.in_ok-push.ensures.items
    ∙ ap (λ (l : List Listed). c.args.listed.now.items ++ l) (tot_is c.args.offsets.now c.time_listed.result c.requires (sym c.is_empty.ensures ∙ c.if-is_empty.false) c.time_listed.ensures)
