use Rattle.std.proofs.Common.{◌+◌, ◌-◌, ◌<◌, get_or, arith, sym, ◌∙◌, ap}
use Rattle.eit_segments.specs.declared.event.EventAt.{EventAt}
use Rattle.eit_segments.specs.Placement.{start_block}
use Rattle.eit_segments.proofs.Order.{before_place, used_nowhere, used_before, used_last}
use Rattle.eit_segments.proofs.blocks.last_used.Goals as goal

none : EventAt
none = record { start = record { 0 = 0 }; seconds = 0; size = 0 }

pub returns-then-end-eq0-clause-used : goal.returns-then-end-eq0-clause-used
returns-then-end-eq0-clause-used c = sym (used_nowhere c.args.first c.args.many c.args.events.now c.requires.order (sym c.block_begin-end.ensures.place ∙ c.if-end-eq0.true))

pub returns-then-block-first-clause-used : goal.returns-then-block-first-clause-used
unfolding none
returns-then-block-first-clause-used c =
    sym (used_before c.args.first c.args.many c.block_begin-end.result c.args.events.now none c.requires.order c.block_begin-end.ensures.place (omega (arith, c.if-end-eq0.false)) c.block_begin-end.ensures.bound
    (omega (arith, c.start_block-block.ensures, c.if-block-first.true)))

pub returns-else-block-first-clause-used : goal.returns-else-block-first-clause-used
unfolding none
returns-else-block-first-clause-used c =
    ap (λ b. b - c.args.first) c.start_block-block.ensures
    ∙ sym (used_last c.args.first c.args.many c.block_begin-end.result c.args.events.now none c.requires.order c.block_begin-end.ensures.place (omega (arith, c.if-end-eq0.false)) c.block_begin-end.ensures.bound
    (omega (arith, c.start_block-block.ensures, c.if-block-first.false)))

pub returns-else-block-first-clause-bound : goal.returns-else-block-first-clause-bound
unfolding none
returns-else-block-first-clause-bound c some =
    let n = c.block_begin-end.result in
    let high : start_block (get_or c.args.events.now (n - 1) none) < c.args.first + c.args.many = before_place (c.args.first + c.args.many) c.args.events.now (n - 1) none (omega (arith, c.block_begin-end.ensures.place, c.if-end-eq0.false)) in
    omega (arith, c.start_block-block.ensures, high, some)
