use Rattle.std.proofs.Common.{◌++◌, ◌∷◌, [], refl, sym, subst}
use Rattle.std.specs.Prelude.{flat_map}
use Rattle.std.specs.Io.KnownBytes.{Appends}
use Rattle.ts_packets.specs.Bytes.{bytes_of_packet}
use Rattle.carousel_player.specs.Sending.{SentAll, SentFront}
use Rattle.cycle_player.specs.Clock.{reads}
use Rattle.cycle_player.specs.TimedPlayer.{playing_of}
use Rattle.cycle_player.specs.Playing.{TimedPlaying, AtEnd, GaveUp, Within}
use Rattle.cycle_player.proofs.Plays.{sent_all, gave_up, on_ok_of, on_err_of}
use Rattle.cycle_player.proofs.timed_player.TimedPlayer.play_cycle.Goals as goal

pub returns-clause-done : goal.returns-clause-done
returns-clause-done g c xs x rest w =
    let fields = c.self.inside in
    let old : TimedPlaying = playing_of fields in
    let new : TimedPlaying = record { book = fields.book; counters = c.send_all.new.counters; left = c.send_all.new.queue; offsets = fields.offsets; rate = fields.rate; clock = reads fields.clock } in
    on_ok_of c.send_all.result
    (SentAll fields.cycle c.send_all.new.queue fields.counters c.send_all.new.counters (g.A.Sink.written c.args.sink.now) (g.A.Sink.written c.send_all.new.sink))
    (AtEnd (xs ++ x ∷ []) new × Appends (g.A.Sink.written c.args.sink.now) (g.A.Sink.written c.send_all.new.sink) (flat_map bytes_of_packet rest))
    c.send_all.ensures.done
    (λ sent. sent_all xs x rest old new (g.A.Sink.written c.args.sink.now) (g.A.Sink.written c.send_all.new.sink) (subst (Within xs x rest) (sym c.self.view_is) w) sent (record { book = refl; rate = refl; clock = refl }))

pub returns-clause-failed : goal.returns-clause-failed
returns-clause-failed g c xs x rest w =
    let fields = c.self.inside in
    let old : TimedPlaying = playing_of fields in
    let new : TimedPlaying = record { book = fields.book; counters = c.send_all.new.counters; left = c.send_all.new.queue; offsets = fields.offsets; rate = fields.rate; clock = reads fields.clock } in
    on_err_of c.send_all.result
    (SentFront fields.cycle c.send_all.new.queue fields.counters c.send_all.new.counters (g.A.Sink.written c.args.sink.now) (g.A.Sink.written c.send_all.new.sink))
    (GaveUp xs x rest (g.A.Sink.written c.args.sink.now) (g.A.Sink.written c.send_all.new.sink) new)
    c.send_all.ensures.failed
    (λ sent. gave_up xs x rest old new (g.A.Sink.written c.args.sink.now) (g.A.Sink.written c.send_all.new.sink) (subst (Within xs x rest) (sym c.self.view_is) w) sent (record { book = refl; rate = refl; clock = refl }))
