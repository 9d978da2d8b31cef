use Rattle.std.proofs.Common.{◌+◌, ◌<◌, get_or, length, arith, sym}
use Rattle.eit_segments.specs.declared.event.EventAt.{EventAt}
use Rattle.eit_segments.specs.Placement.{start_block}
use Rattle.eit_segments.proofs.Order.{before_place, place_is, place_within}
use Rattle.eit_segments.proofs.blocks.block_end.Goals as goal

none : EventAt
none = record { start = record { 0 = 0 }; seconds = 0; size = 0 }

pub loop-i-init : goal.loop-i-init
loop-i-init c k d l = let low : start_block (get_or c.args.events.now k d) < c.args.block = before_place c.args.block c.args.events.now k d (omega arith) in omega arith

pub returns-then-block-start_block-clause-place : goal.returns-then-block-start_block-clause-place
unfolding none
returns-then-block-start_block-clause-place c =
    sym (place_is (1 + c.args.block) c.args.events.now c.loop-i.i none (omega (arith, c.loop-i-test.true)) (λ k l. c.loop-i.invariant k none l) (λ l. omega (arith, c.if-block-start_block.true, c.start_block.ensures)))

pub returns-clause-place : goal.returns-clause-place
returns-clause-place c =
    sym (place_is (1 + c.args.block) c.args.events.now (length c.args.events.now) none (omega arith) (λ k l. c.loop-i.invariant k none (omega (arith, c.loop-i-test.false))) (λ l. absurd (omega arith)))

pub returns-clause-bound : goal.returns-clause-bound
returns-clause-bound c = (omega (arith, place_within c.args.block c.args.events.now, c.requires.from), omega arith)
