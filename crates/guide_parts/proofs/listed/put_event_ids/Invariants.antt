use Rattle.std.proofs.Common.{◌≡◌, ◌++◌, take}
use Rattle.guide_parts.specs.PartScreen.{event_ids}
use Rattle.guide_parts.proofs.listed.put_event_ids.Given as goal

abbrev pub invariant-loop-key : goal.invariant-loop-key
invariant-loop-key l = l.ids.items ≡ l.fn.ids.items ++ event_ids l.home (take l.key-index l.keys)
