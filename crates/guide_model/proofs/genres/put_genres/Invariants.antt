use Rattle.std.proofs.Common.{◌≡◌, ◌++◌, codes, take, flat_map}
use Rattle.guide_model.specs.Genres.{genre_text}
use Rattle.guide_model.proofs.genres.put_genres.Given as goal

abbrev pub invariant-loop-genre : goal.invariant-loop-genre
invariant-loop-genre l = l.out.items ≡ l.initial.out.items ++ flat_map (λ g. codes " " ++ genre_text g) (take l.genre-index l.rest)
