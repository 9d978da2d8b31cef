use Rattle.std.proofs.Common.{◌<◌, ◌∷◌, ℕ, List, Some, length, refl, sym, ap, subst, arith}
use Rattle.std.proofs.lemmas.Bool.Decides.{nat_tests}
use Rattle.ts_packets.specs.declared.written.TsPacket.{TsPacket}
use Rattle.carousel_player.proofs.Sendings.{Sends-one, puts-length}
use Rattle.cycle_player.specs.Clock.{reads}
use Rattle.cycle_player.specs.TimedPlayer.{playing_of}
use Rattle.cycle_player.specs.Playing.{TimedPlaying, Within}
use Rattle.cycle_player.proofs.Plays.{next_came}
use Rattle.cycle_player.proofs.timed_player.TimedPlayer.next_packet.Goals as goal

pub returns-clause-came : goal.returns-clause-came
returns-clause-came c xs x p rest w =
    let fields = c.self.inside in
    let old : TimedPlaying = playing_of fields in
    let new : TimedPlaying = record { book = fields.book; counters = c.stamp.new.self; left = c.put_next.new.self; offsets = fields.offsets; rate = fields.rate; clock = reads fields.clock } in
    let some : 0 < length fields.cycle = grind (arith, nat_tests) in
    let one = Sends-one fields.cycle c.put_next.new.self fields.counters c.stamp.new.self c.put_next.new.into c.stamp.new.packet.0 some c.put_next.ensures c.stamp.ensures.stamped c.stamp.ensures.counted in
    let came = next_came xs x p rest old new c.stamp.new.packet.0 (subst (Within xs x (p ∷ rest)) (sym c.self.view_is) w) one (puts-length fields.cycle c.put_next.new.self c.put_next.new.into some c.put_next.ensures)
    (record { book = refl; rate = refl; clock = refl }) in
    (ap (λ (bytes : List ℕ). Some (let packet : TsPacket = record { 0 = bytes } in packet)) came.0, came.1)
