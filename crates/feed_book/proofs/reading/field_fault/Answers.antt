use Rattle.std.proofs.Common.{◌≡◌, ℕ, sym}
use Rattle.std.specs.Prelude.{Option, Some, None, IfNone}
use Rattle.journal_model.specs.declared.edit.Item.{Item}
use Rattle.journal_model.specs.declared.reply.Field.{Field}
use Rattle.guide_limits.specs.Limits.{IsEventWithin}
use Rattle.guide_limits.specs.Readings.{event_of}
use Rattle.feed_book.specs.Replies.{field_fault}
use Rattle.feed_book.proofs.Faults.{within_from}
use Rattle.feed_book.proofs.reading.field_fault.Goals as goal

fault_within : (day : Option ℕ) (item : Item) (found : Option Field) → found ≡ field_fault day item → IfNone found (IsEventWithin (event_of item))
fault_within day item None is = within_from day item (sym is)
fault_within day item (Some fault) is = tt

pub returns-clause-within : goal.returns-clause-within
returns-clause-within c = fault_within c.args.day c.args.item.now c.first_fault.result c.first_fault.ensures
