use Rattle.std.specs.Prelude.{◌≡◌, length}
use Rattle.command_words.specs.Commands.{texts}
use Rattle.command_words.specs.Grammar.{after_flags}
use Rattle.command_words.proofs.play.after_flags.Given as goal

abbrev pub invariant-loop-word : goal.invariant-loop-word
invariant-loop-word l = after_flags (texts l.rest) ≡ after_flags (texts l.fn.words)

abbrev pub decreases-loop-word : goal.decreases-loop-word
decreases-loop-word l = length l.rest
