use Rattle.std.proofs.Common.{Bool, true, false}
use base.Shift.{Keyless}
use mir.Syntax.{of_param}
use denote.Exit.{Last, if_kept, left, unseen}
use denote.Param.Send.{sendable}
use Rattle.headend_jobs.proofs.jobs.run_both.Goals as goal

-- what is not seen leaves nothing
quiet : {D : Type 0} (kept : Bool) (x : D) (w : Last (if_kept kept (unseen {D = D}) (unseen {D = D})) x)
    → Keyless (left (if_kept kept (unseen {D = D}) (unseen {D = D})) x w)
quiet true x w = tt
quiet false x w = tt

pub join_mut-requires-after_bounds : goal.join_mut-requires-after_bounds
join_mut-requires-after_bounds g c κs within =
    let b = c.type_bounds in
    let r = c.requires in (
      (
        (
          record { owned = b.send-F.owned; leaving = λ k. quiet (k (of_param 1)) },
          record { owned = b.send-S.owned; leaving = λ k. quiet (k (of_param 2)) },
          search (sendable, b.sync-W),
          search (sendable, b.sync-G),
          r.feeds,
          r.control,
          r.views,
        ),
        (
          record { owned = b.send-F.owned; leaving = λ k. quiet (k (of_param 1)) },
          record { owned = b.send-S.owned; leaving = λ k. quiet (k (of_param 2)) },
          search (sendable, b.sync-W),
          search (sendable, b.sync-G),
        ),
      ),
      (
        r.player,
        (
          record { owned = b.send-A.owned; leaving = λ k. quiet (k (of_param 1)) },
          search (sendable, b.sync-W),
          search (sendable, b.sync-G),
        ),
      ),
    )
