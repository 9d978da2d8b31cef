use Rattle.std.proofs.Common.{◌≡◌, ◌+◌, ◌<◌, ℕ, List, ◌++◌, length, take, sym, ap, ◌∙◌, subst, arith, length-append}
use Rattle.std.proofs.lemmas.Bool.Decides.{nat_tests}
use Rattle.carousel_player.specs.Sending.{Sends}
use Rattle.carousel_player.proofs.Sendings.{Sends-one, Sends-trans, puts-length, take_packet}
use Rattle.carousel_player.proofs.batches.fill.Goals as goal

pub loop-end-preserved : goal.loop-end-preserved
loop-end-preserved g c =
    let first = g.P.PacketQueue.packets c.args.queue.now in
    let now = g.P.PacketQueue.packets c.loop-end.queue in
    let next = g.P.PacketQueue.packets c.put_next.new.self in
    let front = c.split_at_mut-rest.result.0.now in
    let packet = c.stamp_bytes.new.packet in
    let behind = c.split_at_mut-packet.result.1.now in
    let some : 0 < length now = grind (arith, nat_tests) in
    let one = Sends-one now next c.loop-end.counters c.stamp_bytes.new.self c.put_next.new.into packet some c.put_next.ensures c.stamp_bytes.ensures.stamped c.stamp_bytes.ensures.counted in
    let both = Sends-trans first now next c.args.counters.now c.loop-end.counters c.stamp_bytes.new.self (take c.loop-end.end c.loop-end.buffer) packet c.loop-end.invariant.sends one in
    let fewer = puts-length now next c.put_next.new.into some c.put_next.ensures in
    let before : length first ≡ length c.loop-end.invariant.sends.front + length now = ap length c.loop-end.invariant.sends.cut ∙ length-append c.loop-end.invariant.sends.front now in
    let taken : take (c.loop-end.end + 188) (front ++ (packet ++ behind)) ≡ take c.loop-end.end c.loop-end.buffer ++ packet =
    take_packet c.loop-end.end front packet behind c.split_at_mut-rest.ensures.front_len (omega arith) ∙ ap (λ (l : List ℕ). l ++ packet) c.split_at_mut-rest.ensures.front in
    record {
      whole = omega arith;
      within = omega arith;
      size = omega (arith, length-append front (packet ++ behind), length-append packet behind);
      sends = subst (λ (l : List ℕ). Sends first next c.args.counters.now c.stamp_bytes.new.self l) (sym taken) both;
      progress = λ _. omega arith;
      begun = λ e. absurd (omega arith);
    }
