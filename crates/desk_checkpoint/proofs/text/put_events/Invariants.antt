use Rattle.std.proofs.Common.{◌≡◌, ◌++◌, take, flat_map}
use Rattle.desk_checkpoint.specs.Text.{put_text}
use Rattle.desk_checkpoint.proofs.text.put_events.Given as goal

abbrev pub invariant-loop-event : goal.invariant-loop-event
invariant-loop-event l = l.out.items ≡ l.fn.out.items ++ flat_map (put_text l.feed l.service) (take l.event-index l.events)
