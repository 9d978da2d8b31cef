use Rattle.std.proofs.Common.{◌≡◌, drop}
use Rattle.std.specs.Prelude.{map}
use Rattle.script_lines.specs.Items.{all_some, genre_of, genres_of}
use Rattle.script_lines.proofs.Genres.{onto}
use Rattle.script_lines.proofs.items.read_genres.Given as goal

abbrev pub invariant-loop-group : goal.invariant-loop-group
invariant-loop-group l = onto l.genres (all_some (map genre_of (map (λ x. x.now) (drop l.group-index l.group-items)))) ≡ genres_of l.fn.field
