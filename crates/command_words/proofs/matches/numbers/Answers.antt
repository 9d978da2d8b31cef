use Rattle.std.proofs.Common.{List, ℕ, Bor}
use Rattle.input_lines.specs.Numbers.{number_in}
use Rattle.command_words.proofs.Getting.{read_next}
use Rattle.command_words.proofs.matches.numbers.Goals as goal

pub loop-text-preserved : goal.loop-text-preserved
loop-text-preserved c =
    read_next (number_in 0 65535) (λ (text : Bor (List ℕ)). text.now) c.args.texts.now c.loop-text.text-index _ c.loop-text.numbers c.put_number.new.numbers c.loop-text-test.true c.loop-text.invariant c.in_ok-put_number.ensures
