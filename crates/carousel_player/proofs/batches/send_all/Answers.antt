use Rattle.std.proofs.Common.{◌<◌, ◌++◌, length, sym, ap, ◌∙◌, subst, arith}
use Rattle.std.proofs.lemmas.Bool.Decides.{nat_tests}
use Rattle.std.proofs.KnownBytes.{Appends-trans}
use Rattle.si_lists.proofs.Outcomes.{on_err}
use Rattle.si_causes.proofs.CauseFacts.{front_behind}
use Rattle.carousel_player.specs.Sending.{Sends, SentFront}
use Rattle.carousel_player.proofs.Sendings.{Sends-trans}
use Rattle.carousel_player.proofs.batches.send_all.Goals as goal

pub loop-queue-preserved : goal.loop-queue-preserved
loop-queue-preserved g c =
    let i = c.loop-queue.invariant in
    let first = g.P.PacketQueue.packets c.args.queue.now in
    let now = g.P.PacketQueue.packets c.loop-queue.queue in
    let next = g.P.PacketQueue.packets c.fill-count.new.queue in
    let due = c.split_at.result.0.now in
    let sends : Sends now next c.loop-queue.counters c.fill-count.new.counters due =
    subst (Sends now next c.loop-queue.counters c.fill-count.new.counters) (sym c.split_at.ensures.front) c.fill-count.ensures.sends in
    let some : 0 < length now = grind (arith, nat_tests) in
    record {
      size = c.fill-count.ensures.size;
      sent = (
        i.sent.0 ++ due,
        Sends-trans first now next c.args.counters.now c.loop-queue.counters c.fill-count.new.counters i.sent.0 due i.sent.1 sends,
        Appends-trans (g.A.Sink.written c.args.sink.now) (g.A.Sink.written c.loop-queue.sink) (g.A.Sink.written c.write_all.new.sink) i.sent.0 due i.sent.2 c.in_ok-write_all.ensures.done,
      );
      later = omega (arith, i.later, c.in_ok-write_all.ensures.cause.later);
      same = g.met.A.Sink.same_later _ _ _ i.same c.in_ok-write_all.ensures.same;
      idle = λ none. absurd (omega (arith, some, ap length (ap g.P.PacketQueue.packets (i.idle none).0 ∙ none)));
    }

pub returns-in_err-write_all-clause-failed : goal.returns-in_err-write_all-clause-failed
returns-in_err-write_all-clause-failed g c =
    let i = c.loop-queue.invariant in
    let first = g.P.PacketQueue.packets c.args.queue.now in
    let now = g.P.PacketQueue.packets c.loop-queue.queue in
    let next = g.P.PacketQueue.packets c.fill-count.new.queue in
    let due = c.split_at.result.0.now in
    let sends : Sends now next c.loop-queue.counters c.fill-count.new.counters due =
    subst (Sends now next c.loop-queue.counters c.fill-count.new.counters) (sym c.split_at.ensures.front) c.fill-count.ensures.sends in
    on_err c.from_residual.result (SentFront first next c.args.counters.now c.fill-count.new.counters (g.A.Sink.written c.args.sink.now) (g.A.Sink.written c.write_all.new.sink))
    (record {
      bytes = i.sent.0 ++ due;
      sends = Sends-trans first now next c.args.counters.now c.loop-queue.counters c.fill-count.new.counters i.sent.0 due i.sent.1 sends;
      front = front_behind (g.A.Sink.written c.args.sink.now) (g.A.Sink.written c.loop-queue.sink) (g.A.Sink.written c.write_all.new.sink) i.sent.0 due i.sent.2 c.in_err-write_all.ensures.failed;
    })
