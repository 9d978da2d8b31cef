use Rattle.strict_receiver.proofs.Apart.{heard_apart}
use Rattle.strict_receiver.proofs.laws.recordings_are_heard_apart.Goals as goal

pub returns : goal.returns
returns c = heard_apart
