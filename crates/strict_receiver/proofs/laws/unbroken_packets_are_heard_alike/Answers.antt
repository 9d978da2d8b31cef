use Rattle.strict_receiver.proofs.Alike.{unbroken_alike}
use Rattle.strict_receiver.proofs.laws.unbroken_packets_are_heard_alike.Goals as goal

pub returns : goal.returns
returns c = unbroken_alike
