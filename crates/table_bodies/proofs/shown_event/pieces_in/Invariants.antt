use Rattle.std.proofs.Common.{◌≡◌, ◌++◌, drop}
use Rattle.table_bodies.specs.ShownEvent.{pieces_in}
use Rattle.table_bodies.proofs.shown_event.pieces_in.Given as goal

abbrev pub invariant-loop-desc : goal.invariant-loop-desc
invariant-loop-desc l = pieces_in l.language l.descs ≡ l.pieces.items ++ pieces_in l.language (drop l.desc-index l.descs)
