use Rattle.std.proofs.Common.{◌≡◌, take}
use Rattle.page_share.proofs.page.events_with_room.Given as goal

abbrev pub invariant-loop-event : goal.invariant-loop-event
invariant-loop-event l = l.copies.items ≡ take l.event-index l.event-items
