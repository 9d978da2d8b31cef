use Rattle.guide_receiver.proofs.receiver.Receiver.open.Goals as goal

pub invariant_of-result : goal.invariant_of-result
invariant_of-result c = c.none.ensures _
