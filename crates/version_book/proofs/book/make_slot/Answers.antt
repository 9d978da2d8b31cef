use Rattle.std.proofs.Common.{◌∙◌, sym}
use Rattle.section_codec.specs.KeyOrder.{key_cmp}
use Rattle.version_book.proofs.SlotFacts.{shown-insert}
use Rattle.version_book.proofs.book.make_slot.Goals as goal

pub returns-in_ok-insert-clause-shown : goal.returns-in_ok-insert-clause-shown
returns-in_ok-insert-clause-shown c =
    let absent = c.if-not-contains_key.true in
    rw c.in_ok-insert.ensures.entries (shown-insert key_cmp c.args.key c.args.slots.now.entries (sym c.contains_key.ensures ∙ absent))
