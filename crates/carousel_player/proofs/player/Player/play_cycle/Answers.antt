use Rattle.std.proofs.Common.{◌++◌, ◌∷◌, [], refl, sym, subst}
use Rattle.std.specs.Prelude.{flat_map}
use Rattle.std.specs.Io.KnownBytes.{Appends}
use Rattle.ts_packets.specs.Bytes.{bytes_of_packet}
use Rattle.carousel_player.specs.Sending.{SentAll, SentFront}
use Rattle.carousel_player.specs.Playing.{Playing, AtEnd, GaveUp, Within}
use Rattle.carousel_player.proofs.Plays.{sent_all, gave_up, on_ok_of, on_err_of}
use Rattle.carousel_player.proofs.player.Player.play_cycle.Goals as goal

pub returns-clause-done : goal.returns-clause-done
returns-clause-done g c xs x rest w =
    let fields = c.self.inside in
    let old : Playing = record { book = fields.book; counters = fields.counters; left = fields.cycle; form = record { quota = fields.quota; offsets = fields.offsets } } in
    let new : Playing = record { book = fields.book; counters = c.send_all.new.counters; left = c.send_all.new.queue; form = record { quota = fields.quota; offsets = fields.offsets } } in
    on_ok_of c.send_all.result
    (SentAll fields.cycle c.send_all.new.queue fields.counters c.send_all.new.counters (g.A.Sink.written c.args.sink.now) (g.A.Sink.written c.send_all.new.sink))
    (AtEnd (xs ++ x ∷ []) new × Appends (g.A.Sink.written c.args.sink.now) (g.A.Sink.written c.send_all.new.sink) (flat_map bytes_of_packet rest))
    c.send_all.ensures.done
    (λ sent. sent_all xs x rest old new (g.A.Sink.written c.args.sink.now) (g.A.Sink.written c.send_all.new.sink) (subst (Within xs x rest) (sym c.self.view_is) w) sent refl)

pub returns-clause-failed : goal.returns-clause-failed
returns-clause-failed g c xs x rest w =
    let fields = c.self.inside in
    let old : Playing = record { book = fields.book; counters = fields.counters; left = fields.cycle; form = record { quota = fields.quota; offsets = fields.offsets } } in
    let new : Playing = record { book = fields.book; counters = c.send_all.new.counters; left = c.send_all.new.queue; form = record { quota = fields.quota; offsets = fields.offsets } } in
    on_err_of c.send_all.result
    (SentFront fields.cycle c.send_all.new.queue fields.counters c.send_all.new.counters (g.A.Sink.written c.args.sink.now) (g.A.Sink.written c.send_all.new.sink))
    (GaveUp xs x rest (g.A.Sink.written c.args.sink.now) (g.A.Sink.written c.send_all.new.sink) new)
    c.send_all.ensures.failed
    (λ sent. gave_up xs x rest old new (g.A.Sink.written c.args.sink.now) (g.A.Sink.written c.send_all.new.sink) (subst (Within xs x rest) (sym c.self.view_is) w) sent refl)
