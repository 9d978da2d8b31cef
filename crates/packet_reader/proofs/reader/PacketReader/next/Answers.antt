use Rattle.std.proofs.Common.{◌≡◌, ◌≢◌, ◌+◌, ◌-◌, suc, true, false, refl, sym, ◌∙◌, arith, List, ℕ, length, take, drop, subst}
use Rattle.std.proofs.lemmas.Grind.{common_steps}
use Rattle.std.proofs.lemmas.Bool.Decides.{nat_tests}
use Rattle.std.specs.Prelude.{Some}
use Rattle.std.specs.Io.KnownBytes.{prepend_known}
use Rattle.packet_reader.specs.Recordings.{is_packet}
use Rattle.packet_reader.specs.Reading.{Gathers, bytes_left}
use Rattle.packet_reader.proofs.RecordingFacts.{past_limit, all_left, broken, goes_on, is_long, taken}
use Rattle.packet_reader.proofs.reader.PacketReader.next.Goals as goal

false-true : false ≡ true → ⊥
false-true e = cc

pub returns-then-self-eq-PACKETS-clause-packets : goal.returns-then-self-eq-PACKETS-clause-packets
returns-then-self-eq-PACKETS-clause-packets g c =
    let inside = c.self.inside in
    let left = g.S.Source.left in
    let gathers = subst (λ h. Gathers (left inside.source) (left c.gather.new.source) h c.gather.new.held) c.consume.ensures c.gather.ensures.gathers in
    let some : length c.gather.new.held ≢ 0 = grind (arith, nat_tests, c.if-is_empty.false, c.is_empty.ensures, c.bytes-bytes.ensures) in
    let no_room : 4294967295 - inside.number ≡ 0 = omega (arith, c.if-self-eq-PACKETS.true) in
    rw (← c.self.view_is) (λ going bytes told.
    rw (no_room, past_limit (left inside.source) (left c.gather.new.source) (drop inside.handed inside.held) c.gather.new.held bytes told gathers some, c.stopped-then-self-eq-PACKETS.ensures.result) tt)

pub returns-then-not-begins_with_packet-clause-packets : goal.returns-then-not-begins_with_packet-clause-packets
returns-then-not-begins_with_packet-clause-packets g c =
    let inside = c.self.inside in
    let left = g.S.Source.left in
    let gathers = subst (λ h. Gathers (left inside.source) (left c.gather.new.source) h c.gather.new.held) c.consume.ensures c.gather.ensures.gathers in
    let some : length c.gather.new.held ≢ 0 = grind (arith, nat_tests, c.if-is_empty.false, c.is_empty.ensures, c.bytes-bytes.ensures) in
    let one_less : 4294967295 - inside.number ≡ suc (4294967295 - (inside.number + 1)) = omega (arith, c.if-self-eq-PACKETS.false, c.self.invariant) in
    let none : is_packet (take 188 c.gather.new.held) ≡ false = cc in
    rw (← c.self.view_is) (λ going bytes told.
    rw (
      one_less,
      broken (left inside.source) (left c.gather.new.source) (drop inside.handed inside.held) c.gather.new.held bytes told gathers c.in-Ok.ensures.end some none (4294967295 - (inside.number + 1)),
      c.stopped-then-not-begins_with_packet-2.ensures.result,
    ) tt)

pub returns-then-not-begins_with_packet-clause-broken : goal.returns-then-not-begins_with_packet-clause-broken
returns-then-not-begins_with_packet-clause-broken g c =
    let inside = c.self.inside in
    let left = g.S.Source.left in
    let gathers = subst (λ h. Gathers (left inside.source) (left c.gather.new.source) h c.gather.new.held) c.consume.ensures c.gather.ensures.gathers in
    let kept = λ (bytes : List ℕ). λ (told : bytes_left left c.args.self.now ≡ Some bytes).
    let was : prepend_known (drop inside.handed inside.held) (left inside.source) ≡ Some bytes = rw (← c.self.view_is) at told in
    all_left (left inside.source) (left c.gather.new.source) (drop inside.handed inside.held) c.gather.new.held bytes was gathers in
    rw (c.stopped-then-not-begins_with_packet-2.ensures.result, c.stopped-then-not-begins_with_packet-2.ensures.stop) (λ going. (kept, c.in-Ok.ensures.end))

pub invariant_of-self-2 : goal.invariant_of-self-2
invariant_of-self-2 g c =
    let is : is_packet (take 188 c.gather.new.held) ≡ true = cc in
    (omega (arith, c.if-self-eq-PACKETS.false, c.self.invariant.0), is_long c.gather.new.held is, λ e. absurd (false-true (sym c.if-self.false ∙ e)))

pub returns-clause-packets : goal.returns-clause-packets
returns-clause-packets g c =
    let inside = c.self.inside in
    let left = g.S.Source.left in
    let gathers = subst (λ h. Gathers (left inside.source) (left c.gather.new.source) h c.gather.new.held) c.consume.ensures c.gather.ensures.gathers in
    let one_less : 4294967295 - inside.number ≡ suc (4294967295 - (inside.number + 1)) = omega (arith, c.if-self-eq-PACKETS.false, c.self.invariant) in
    let is : is_packet (take 188 c.gather.new.held) ≡ true = cc in
    rw (← c.self.view_is) (λ going bytes told.
    let t = goes_on (left inside.source) (left c.gather.new.source) (drop inside.handed inside.held) c.gather.new.held bytes told gathers is (4294967295 - (inside.number + 1)) in
    rw (one_less, t.2) (refl, (t.0, t.1, refl)))

pub returns-clause-takes : goal.returns-clause-takes
returns-clause-takes g c =
    let inside = c.self.inside in
    let left = g.S.Source.left in
    let gathers = subst (λ h. Gathers (left inside.source) (left c.gather.new.source) h c.gather.new.held) c.consume.ensures c.gather.ensures.gathers in
    rw (← c.self.view_is) (λ going bytes told.
    taken (left inside.source) (left c.gather.new.source) (drop inside.handed inside.held) c.gather.new.held bytes told gathers)

pub returns-clause-counts : goal.returns-clause-counts
returns-clause-counts g c = grind (arith, common_steps)
