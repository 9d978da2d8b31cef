use Rattle.std.proofs.Common.{subst, sym}
use Rattle.guide_receiver.specs.Heard.{ReceiverStandsAfter}
use Rattle.guide_receiver.proofs.receiver.Receiver.follows.Goals as goal

pub returns : goal.returns
returns c = λ earlier packets taken stands. c.follows.ensures packets (subst (ReceiverStandsAfter earlier packets taken) (sym c.self.view_is) stands).sections
