use Rattle.publication.proofs.FitFacts.{publication_fit}
use Rattle.publication.proofs.TellFacts.{publication_tells}
use Rattle.publication.proofs.laws.publications_are_fit.Goals as goal

pub returns-clause-fit : goal.returns-clause-fit
returns-clause-fit c = publication_fit

pub returns-clause-told : goal.returns-clause-told
returns-clause-told c = publication_tells
