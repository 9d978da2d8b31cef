use Rattle.std.proofs.Common.{◌≡◌, ◌++◌, ◌∙◌, length, List, ap₂, sym}
use Rattle.guide_parts.specs.declared.part_screen.Listed.{Listed}
use Rattle.guide_parts.proofs.Ordering.{one_taken, all_taken}
use Rattle.guide_parts.proofs.listed.in_order.Goals as goal

pub loop-one-preserved : goal.loop-one-preserved
loop-one-preserved c =
    one_taken c.args.listed.items c.loop-one.listed.items c.pop.new.self.items c.pop.result
    c.in-Some.one c.loop-one.by_id.entries c.put_listed.new.by_id.entries
    c.loop-one.invariant c.pop.ensures.items c.in-Some.is c.in_ok-put_listed.ensures

pub loop-one-2-init : goal.loop-one-2-init
loop-one-2-init c =
    let none : length c.loop-one.listed.items ≡ 0 = sym c.loop-one.listed.ok.0 ∙ c.in_default.ensures.cases.0 in
    ap₂ (λ (xs ys : List Listed). xs ++ ys) c.in_ok-ordered.ensures.items
    (c.into_iter-one-iterator.ensures.into_iter_gives ∙ c.into_values-one-items.ensures.rest)
    ∙ all_taken c.args.listed.items c.loop-one.listed.items c.loop-one.by_id.entries c.loop-one.invariant none
