use Rattle.std.proofs.Common.{◌++◌, ℕ, List, length, ap, ap₂, ◌∙◌}
use Rattle.air_monitor.proofs.Packets.{filled_more}
use Rattle.air_monitor.proofs.part.put_at.Goals as goal

pub returns : goal.returns
returns c =
    let front = c.split_at_mut-rest.result.0.now in
    let room = c.copy_from_slice.new.self in
    let behind = c.split_at_mut-room.result.1.now in
    filled_more c.args.at (length c.args.from.now) front room behind c.split_at_mut-rest.ensures.front_len (ap length c.copy_from_slice.ensures.after)
    ∙ ap₂ (λ (x y : List ℕ). x ++ y) c.split_at_mut-rest.ensures.front c.copy_from_slice.ensures.after
