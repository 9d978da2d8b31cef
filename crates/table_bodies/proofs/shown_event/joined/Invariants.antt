use Rattle.std.proofs.Common.{◌≡◌, [], drop}
use Rattle.std.specs.Prelude.{string_bytes}
use Rattle.guide_model.specs.Decoding.{IsKept}
use Rattle.table_bodies.specs.ShownEvent.{texts_of}
use Rattle.table_bodies.proofs.Joined.{text_behind}
use Rattle.table_bodies.proofs.shown_event.joined.Given as goal

abbrev pub invariant-loop-piece : goal.invariant-loop-piece
invariant-loop-piece l = record {
  so_far : text_behind [] (texts_of l.pieces) ≡ text_behind (string_bytes l.text) (texts_of (drop l.piece-index l.pieces));
  kept : IsKept (string_bytes l.text);
}
