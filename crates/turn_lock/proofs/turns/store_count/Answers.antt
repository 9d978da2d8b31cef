use Rattle.std.proofs.Common.{arith}
use Rattle.turn_lock.proofs.Moves.{counts}
use Rattle.turn_lock.proofs.turns.store_count.Goals as goal

pub store-requires : goal.store-requires
store-requires g c =
    let m = g.S.Chronicle in
    let key = c.args.shared.now.key in
    let seat = c.args.seat.now in (
      c.requires.table.0,
      omega (arith, c.requires.table.1),
      counts m.entries m.stands_on m.caller key.callers (m.stands_on key.first.value) c.args.shared.now.table_id.slots seat.id c.count.result g.W.Said.state seat.me.0 c.args.state.now seat.me.1
          c.requires.said c.requires.holds.0 c.requires.holds.1 c.requires.holds.2 c.count.ensures c.requires.grows,
    )
