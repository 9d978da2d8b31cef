use Rattle.std.proofs.Common.{◌-◌, arith, sym, ◌∙◌}
use Rattle.eit_segments.specs.declared.event.EventAt.{EventAt}
use Rattle.eit_segments.proofs.Order.{before_next, none_present, one_present, last_ended}
use Rattle.eit_segments.proofs.present.present_before.Goals as goal

none : EventAt
none = record { start = record { 0 = 0 }; seconds = 0; size = 0 }

pub returns-then-next-eq0 : goal.returns-then-next-eq0
returns-then-next-eq0 c = none_present c.args.at.0 c.args.events.now none c.requires.order (sym c.requires.next ∙ c.if-next-eq0.true)

pub is_on-requires : goal.is_on-requires
unfolding none
is_on-requires c = before_next c.args.at.0 c.args.events.now (c.args.next - 1) none (omega (arith, c.requires.next, c.if-next-eq0.false))

pub returns-then-is_on : goal.returns-then-is_on
unfolding none
returns-then-is_on c =
    one_present c.args.at.0 c.args.events.now none c.args.next c.requires.order c.requires.next (omega (arith, c.if-next-eq0.false)) c.requires.bound (sym c.is_on.ensures ∙ c.if-is_on.true)

pub returns-else-is_on : goal.returns-else-is_on
unfolding none
returns-else-is_on c =
    last_ended c.args.at.0 c.args.events.now none c.args.next c.requires.order c.requires.next (omega (arith, c.if-next-eq0.false)) c.requires.bound (sym c.is_on.ensures ∙ c.if-is_on.false)
