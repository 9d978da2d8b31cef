use Rattle.std.proofs.Common.{◌≡◌, ◌++◌, [], ap, sym, subst, ◌∙◌}
use Rattle.std.specs.Prelude.{string_bytes}
use Rattle.guide_model.specs.Decoding.{IsKept, decoded}
use Rattle.guide_model.specs.declared.shown.Shown.TheVariants.{Text}
use Rattle.guide_model.proofs.PieceFacts.{IsKept-append, IsKept-concat}
use Rattle.table_bodies.specs.ShownEvent.{texts_of}
use Rattle.table_bodies.proofs.Joined.{text_behind, text_next}
use Rattle.table_bodies.proofs.shown_event.joined.Goals as goal

pub loop-piece-init : goal.loop-piece-init
loop-piece-init c = record {
  so_far = ap (λ f. text_behind f (texts_of c.args.pieces.now)) (sym c.new-text.ensures.bytes);
  kept = subst IsKept (sym c.new-text.ensures.bytes) (IsKept-concat [] tt);
}

pub loop-piece-preserved : goal.loop-piece-preserved
loop-piece-preserved c =
    let front = string_bytes c.loop-piece.text in
    let shown : decoded c.piece-item.result ≡ Text c.in-Text.piece = ap decoded (sym c.as_slice.ensures) ∙ sym c.in_ok-piece.ensures ∙ c.in-Text.is in
    let more : string_bytes c.push_str.new.self ≡ front ++ c.in-Text.piece = c.in_ok-push_str-in-Text.ensures.bytes ∙ ap (λ xs. front ++ xs) c.as_str.ensures.value in
    record {
      so_far = c.loop-piece.invariant.so_far
          ∙ text_next c.args.pieces.now c.loop-piece.piece-index front (string_bytes c.push_str.new.self) c.piece-item.result c.in-Text.piece c.loop-piece-test.true (sym c.piece-item.is) shown more;
      kept = subst IsKept (sym more) (IsKept-append front c.in-Text.piece c.loop-piece.invariant.kept (record { utf8 = c.as_str.ensures.utf8; clean = c.as_str.ensures.clean }));
    }
