use Rattle.publication.proofs.TypedFacts.{typed_left}
use Rattle.publication.proofs.eit_laws.read_edits_leave_typed_events.Goals as goal

pub returns : goal.returns
returns c = typed_left
