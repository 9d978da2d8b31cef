use Rattle.std.specs.Prelude.{length}
use Rattle.command_words.specs.Commands.{texts}
use Rattle.command_words.proofs.Settings.{Reads}
use Rattle.command_words.proofs.uses.uses_of.Given as goal

abbrev pub invariant-loop-rest : goal.invariant-loop-rest
invariant-loop-rest l = Reads (texts l.fn.words) (texts l.rest) l.uses

abbrev pub decreases-loop-rest : goal.decreases-loop-rest
decreases-loop-rest l = length l.rest
