use Rattle.std.proofs.Common.{length, eqb, sym, arith}
use Rattle.std.proofs.lemmas.Bool.{eq-eqb}
use Rattle.std.proofs.lemmas.List.Sums.{position_or_len_is}
use Rattle.feed_book.specs.declared.index.IndexedEvent.{IndexedEvent}
use Rattle.feed_book.proofs.index.place_of_id.Goals as goal

none : IndexedEvent
none = record { id = 0; start = 0; seconds = 0; size = 0 }

pub returns-then-slot-id-clause-place : goal.returns-then-slot-id-clause-place
unfolding none
returns-then-slot-id-clause-place c =
    sym (position_or_len_is (λ (slot : IndexedEvent). eqb slot.id c.args.id) c.args.slots.now c.loop-i.i none c.loop-i.auto.i-end (λ k h. c.loop-i.invariant k none h) (λ _. eq-eqb _ _ c.if-slot-id.true))

pub returns-clause-place : goal.returns-clause-place
returns-clause-place c =
    sym (position_or_len_is (λ (slot : IndexedEvent). eqb slot.id c.args.id) c.args.slots.now (length c.args.slots.now) none (omega arith) (λ k h. c.loop-i.invariant k none (omega arith)) (λ h. absurd (omega arith)))
