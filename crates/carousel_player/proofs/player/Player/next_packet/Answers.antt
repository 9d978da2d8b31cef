use Rattle.std.proofs.Common.{◌<◌, ◌∷◌, ℕ, List, Some, length, refl, sym, ap, subst, arith}
use Rattle.std.proofs.lemmas.Bool.Decides.{nat_tests}
use Rattle.ts_packets.specs.declared.written.TsPacket.{TsPacket}
use Rattle.carousel_player.specs.Playing.{Playing, Within}
use Rattle.carousel_player.proofs.Sendings.{Sends-one, puts-length}
use Rattle.carousel_player.proofs.Plays.{next_came}
use Rattle.carousel_player.proofs.player.Player.next_packet.Goals as goal

pub returns-clause-came : goal.returns-clause-came
returns-clause-came c xs x p rest w =
    let fields = c.self.inside in
    let old : Playing = record { book = fields.book; counters = fields.counters; left = fields.cycle; form = record { quota = fields.quota; offsets = fields.offsets } } in
    let new : Playing = record { book = fields.book; counters = c.stamp.new.self; left = c.put_next.new.self; form = record { quota = fields.quota; offsets = fields.offsets } } in
    let some : 0 < length fields.cycle = grind (arith, nat_tests) in
    let one = Sends-one fields.cycle c.put_next.new.self fields.counters c.stamp.new.self c.put_next.new.into c.stamp.new.packet.0 some c.put_next.ensures c.stamp.ensures.stamped c.stamp.ensures.counted in
    let came = next_came xs x p rest old new c.stamp.new.packet.0 (subst (Within xs x (p ∷ rest)) (sym c.self.view_is) w) one (puts-length fields.cycle c.put_next.new.self c.put_next.new.into some c.put_next.ensures) refl in
    (ap (λ (bytes : List ℕ). Some (let packet : TsPacket = record { 0 = bytes } in packet)) came.0, came.1)
