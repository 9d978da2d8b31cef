use Rattle.std.proofs.Common.{List, subst}
use Rattle.std.specs.List.{AllByRecursion}
use Rattle.air_model.specs.Air.{Sent}
use Rattle.carousel_player.specs.Queue.{CanBeSent}
use Rattle.carousel_player.specs.Laying.{order_left}
use Rattle.carousel_player.proofs.Places.{queue_fits}
use Rattle.carousel_player.proofs.queue.CycleQueueSectionQueue.pid.Goals as goal

pub returns-clause-fit : goal.returns-clause-fit
returns-clause-fit c =
    let q = c.self.inside in
    subst (λ (ss : List Sent). AllByRecursion CanBeSent ss) c.self.view_is (queue_fits q.laid.bytes.items q.laid.placed.items (order_left q.at q.plan) c.self.invariant)
