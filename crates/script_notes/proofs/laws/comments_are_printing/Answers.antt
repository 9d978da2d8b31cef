use Rattle.script_notes.proofs.WhyFacts.{words_printing}
use Rattle.script_notes.proofs.laws.comments_are_printing.Goals as goal

pub returns : goal.returns
returns c = words_printing
