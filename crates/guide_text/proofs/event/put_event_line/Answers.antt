use Rattle.std.proofs.Common.{◌++◌, ◌∷◌, [], ◌∙◌, ap}
use Rattle.guide_model.specs.Genres.{genres_text}
use Rattle.guide_text.proofs.Lines.{event_parts, then_line}
use Rattle.guide_text.proofs.event.put_event_line.Goals as goal

pub returns : goal.returns
returns c =
    then_line c.extend_from_slice-2.result c.extend_from_slice-2.new.self.items (c.put_genres.new.out.items ++ 10 ∷ []) _ _
    (event_parts c.args.out.now.items c.args.word.now c.args.event.now c.extend_from_slice.new.self.items c.put_times.new.out.items c.put_texts.new.out.items c.put_rating.new.out.items c.put_genres.new.out.items
    c.in_ok-extend_from_slice.ensures.items c.in_ok-put_times.ensures c.in_ok-put_texts.ensures c.in_ok-put_rating.ensures (c.in_ok-put_genres.ensures ∙ ap (λ gs. c.put_rating.new.out.items ++ 9 ∷ genres_text gs) c.as_slice.ensures))
    c.extend_from_slice-2.ensures.items
