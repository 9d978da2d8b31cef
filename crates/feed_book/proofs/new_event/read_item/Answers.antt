use Rattle.std.proofs.Common.{sym, ◌∙◌, ap}
use Rattle.feed_book.specs.Index.{slot_of}
use Rattle.feed_book.proofs.Indexed.{fault_is}
use Rattle.feed_book.proofs.new_event.read_item.Goals as goal

pub returns-in-Some-place_fault-clause-fault : goal.returns-in-Some-place_fault-clause-fault
returns-in-Some-place_fault-clause-fault c events index =
    sym c.in-Some-place_fault.is ∙ c.place_fault.ensures
    ∙ fault_is c.args.day c.args.item.now events c.args.slots.now c.slot_of-slot.result index (c.slot_of-slot.ensures.slot ∙ ap slot_of c.in_ok-event.ensures) (sym c.field_fault.ensures.first ∙ c.in_default.is)

pub returns-clause-fault : goal.returns-clause-fault
returns-clause-fault c events index =
    sym c.in_default-place_fault.is ∙ c.place_fault.ensures
    ∙ fault_is c.args.day c.args.item.now events c.args.slots.now c.slot_of-slot.result index (c.slot_of-slot.ensures.slot ∙ ap slot_of c.in_ok-event.ensures) (sym c.field_fault.ensures.first ∙ c.in_default.is)
