use Rattle.std.proofs.Common.{◌≡◌, List, map, take, ℕ, Bor}
use Rattle.command_words.specs.Commands.{texts}
use Rattle.command_words.proofs.matches.copies.Given as goal

abbrev pub invariant-loop-path : goal.invariant-loop-path
invariant-loop-path l = texts l.copies.items ≡ map (λ (path : Bor (List ℕ)). path.now) (take l.path-index l.paths)
