use Rattle.std.proofs.Common.{◌≡◌, List, map, take, ℕ, Bor}
use Rattle.std.specs.Prelude.{filter_map}
use Rattle.input_lines.specs.Numbers.{number_in}
use Rattle.command_words.proofs.matches.numbers.Given as goal

abbrev pub invariant-loop-text : goal.invariant-loop-text
invariant-loop-text l = l.numbers ≡ filter_map (number_in 0 65535) (map (λ (text : Bor (List ℕ)). text.now) (take l.text-index l.texts))
