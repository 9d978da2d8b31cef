use Rattle.publication.proofs.EntryFacts.{typed_small}
use Rattle.publication.proofs.eit_laws.entries_are_small.Goals as goal

pub returns : goal.returns
returns c = typed_small
