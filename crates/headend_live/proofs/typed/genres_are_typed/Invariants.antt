use Rattle.std.proofs.Common.{take}
use Rattle.std.specs.List.{AllByRecursion}
use Rattle.journal_model.specs.Edits.{HasGenreNumbers}
use Rattle.headend_live.proofs.typed.genres_are_typed.Given as goal

abbrev pub invariant-loop-genre : goal.invariant-loop-genre
invariant-loop-genre l = record {
  all : AllByRecursion HasGenreNumbers (take l.genre-index l.genres);
}
