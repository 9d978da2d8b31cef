use Rattle.std.proofs.Common.{◌<◌, ◌≤◌, get_or, sym, subst, ◌∙◌, arith}
use Rattle.std.proofs.lemmas.List.{get_or_default}
use Rattle.feed_book.specs.declared.index.IndexedEvent.{IndexedEvent}
use Rattle.guide_limits.specs.Events.{block_of}
use Rattle.feed_book.specs.Index.{share_of}
use Rattle.feed_book.proofs.SearchLemmas.{sum_by-take_none, sum_by-rest_none, other_block, blocks_rise}
use Rattle.feed_book.proofs.index.block_size.Goals as goal

none : IndexedEvent
none = record { id = 0; start = 0; seconds = 0; size = 0 }

pub loop-i-init : goal.loop-i-init
loop-i-init c = record {
  sum = sym (sum_by-take_none (share_of c.args.slot.now) c.args.slots.now c.first_in_block-i.result
      (λ k d h. other_block c.args.slot.now (get_or c.args.slots.now k d) (λ e. let low : block_of (get_or c.args.slots.now k d).start < block_of c.args.slot.now.start = c.first_in_block-i.ensures.below k d h in omega arith)));
  bound = omega arith;
}

pub returns-then-block-other-clause-size : goal.returns-then-block-other-clause-size
unfolding none
returns-then-block-other-clause-size c =
    c.loop-i.invariant.sum ∙ sum_by-rest_none (share_of c.args.slot.now) c.args.slots.now c.loop-i.i
    (λ k d h l. other_block c.args.slot.now (get_or c.args.slots.now k d) (λ e.
    let up : block_of (get_or c.args.slots.now c.loop-i.i d).start ≤ block_of (get_or c.args.slots.now k d).start = blocks_rise c.args.slots.now c.loop-i.i k d c.requires.starts h l in
    let high : block_of c.args.slot.now.start < block_of (get_or c.args.slots.now c.loop-i.i d).start
    = subst (λ (o : IndexedEvent). block_of c.args.slot.now.start < block_of o.start) (get_or_default c.args.slots.now c.loop-i.i none d c.loop-i-test.true) c.if-block-other.true in
    omega arith))
