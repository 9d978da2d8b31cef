use Rattle.si_lists.proofs.RunFacts.{are_longest}
use Rattle.si_lists.proofs.laws.runs_are_longest.Goals as goal

pub returns : goal.returns
returns g c = λ size limit things each. are_longest size limit things each
