use Rattle.std.proofs.Common.{get_or, sym, ◌∙◌, arith}
use Rattle.feed_book.specs.declared.index.IndexedEvent.{IndexedEvent}
use Rattle.feed_book.specs.Index.{is_in_the_way}
use Rattle.feed_book.proofs.SearchLemmas.{find_none, find_first, find_nowhere, early_out}
use Rattle.feed_book.proofs.index.first_in_the_way.Goals as goal

none : IndexedEvent
none = record { id = 0; start = 0; seconds = 0; size = 0 }

pub loop-i-init : goal.loop-i-init
loop-i-init c k d h = early_out c.args.slot.now (get_or c.args.slots.now k d) (c.first_after-i.ensures.below k d h)

pub returns-after-loop-i : goal.returns-after-loop-i
returns-after-loop-i c = sym (find_none (is_in_the_way c.args.slot.now) c.args.slots.now none (λ k h. c.loop-i.invariant k none (omega arith)))

pub returns-then-end-other : goal.returns-then-end-other
unfolding none
returns-then-end-other c =
    sym (find_nowhere c.args.slot.now c.args.slots.now c.loop-i.i none c.requires.slots.starts (λ k h. c.loop-i.invariant k none h) c.loop-i-test.true (omega (arith, c.if-end-other.true, c.from.ensures)))

pub returns-then-blocks : goal.returns-then-blocks
unfolding none
returns-then-blocks c =
    sym (find_first (is_in_the_way c.args.slot.now) c.args.slots.now c.loop-i.i none c.loop-i-test.true
    (λ k h. c.loop-i.invariant k none h) (sym c.blocks-in-loop-i.ensures ∙ c.if-blocks.true))
