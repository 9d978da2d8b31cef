use Rattle.std.proofs.Common.{List, ℕ, length, ap, ◌∙◌}
use Rattle.cycle_timing.proofs.Leading.{largest_more}
use Rattle.cycle_timing.proofs.leads.most_sections.Goals as goal

pub loop-group-preserved : goal.loop-group-preserved
loop-group-preserved c =
    c.max-most.ensures
    ∙ largest_more (λ (g : List ℕ). length g) c.args.groups.now c.loop-group.group-index c.group-item.result c.loop-group.most c.in_ok-count_of.field-0 c.loop-group-test.true c.loop-group.invariant
    (c.in_ok-count_of.ensures ∙ ap (λ (g : List ℕ). length g) c.group-item.is)
