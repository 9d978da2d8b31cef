use Rattle.std.proofs.Common.{ℕ, List, ◌++◌, ap, ◌∙◌}
use Rattle.std.specs.Prelude.{codes, flat_map, take}
use Rattle.guide_model.specs.Genres.{genre_text}
use Rattle.guide_model.proofs.Joined.{texts_whole}
use Rattle.guide_model.proofs.genres.put_genres.Goals as goal

pub returns : goal.returns
returns c =
    let others = flat_map (λ k. codes " " ++ genre_text k) (take c.loop-genre.genre-index c.in-Some.rest.now) in
    texts_whole genre_text c.args.genres.now c.in-Some.rest.now c.in-Some.first.now c.loop-genre.genre-index c.args.out.now.items c.loop-genre.out.items
    c.in-Some.ensures.cases.0 c.loop-genre-test.false (c.loop-genre.invariant ∙ ap (λ (l : List ℕ). l ++ others) c.in_ok-put_genre.ensures)
