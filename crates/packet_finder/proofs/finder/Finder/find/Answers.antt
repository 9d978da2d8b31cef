use Rattle.std.proofs.Common.{◌≡◌, ◌≢◌, ◌<◌, ◌≤◌, [], ℕ, take, drop, length, true, false, refl, sym, ap, subst, ◌∙◌, arith}
use Rattle.std.specs.Prelude.{None, Option, unwrap_or}
use Rattle.packet_reader.specs.Recordings.{is_packet, packet_limit}
use Rattle.packet_reader.specs.Reading.{Gathers}
use Rattle.packet_finder.specs.Pieces.{BeginsOrEnds, needed, next_place}
use Rattle.packet_finder.specs.Finding.{Finding, HoldsPiece}
use Rattle.packet_finder.specs.Steps.{FindsOn, LostSync}
use Rattle.packet_finder.proofs.Steps.{IsJudged}
use Rattle.packet_finder.proofs.Finds.{none_handed, find_end, find_failed, find_past, find_packet, find_seek, counted_packet, begins_still, not_passed, nothing_asked, holds_still}
use Rattle.packet_finder.proofs.finder.Finder.find.Goals as goal

below : (n : ℕ) → n ≤ packet_limit → n ≢ 4294967295 → n < packet_limit
below n le other = omega (arith, le, other)

pub invariant_of-self : goal.invariant_of-self
invariant_of-self g c =
    let inside = c.self.inside in
    let now = c.gather.new in
    let left = g.S.Source.left in
    let was : Finding g.row.S.Denot = record { source = inside.source; held = drop inside.handed inside.held; number = inside.number; packet = take inside.handed inside.held; tail = inside.tail; passed = inside.passed; ended = inside.ended; stop = inside.stop } in
    let none : take inside.handed inside.held ≡ [] = rw (← c.self.view_is) at c.requires.none in
    let zero = none_handed inside.handed inside.held c.self.invariant.1 none in
    let gathers : Gathers (left inside.source) (left now.source) (drop inside.handed inside.held) now.held = subst (λ n. Gathers (left inside.source) (left now.source) (drop n inside.held) now.held) (sym zero) c.gather.ensures.gathers in
    let over : inside.ended ≡ true → (now.ended ≡ true) × (now.held ≡ drop inside.handed inside.held) = λ e. (let o = c.gather.ensures.over e in (o.0, o.2 ∙ ap (λ n. drop n inside.held) (sym zero))) in
    let begins : inside.passed ≡ true → (inside.tail ≡ None) × BeginsOrEnds now.ended now.held = λ e.
    let before = c.self.invariant.4 e in
    (before.0, begins_still inside.ended now.ended (drop inside.handed inside.held) now.held gathers.0 gathers.1 over before.1) in
    (c.self.invariant.0, subst (λ n. n ≤ length now.held) (sym zero) (omega arith), c.self.invariant.2, c.gather.ensures.end, λ e. (let b = begins e in (b.0, subst (λ n. BeginsOrEnds now.ended (drop n now.held)) (sym zero) b.1)))

pub returns-in_default-clause-finds : goal.returns-in_default-clause-finds
returns-in_default-clause-finds g c =
    let inside = c.self.inside in
    let now = c.gather.new in
    let left = g.S.Source.left in
    let was : Finding g.row.S.Denot = record { source = inside.source; held = drop inside.handed inside.held; number = inside.number; packet = take inside.handed inside.held; tail = inside.tail; passed = inside.passed; ended = inside.ended; stop = inside.stop } in
    let none : take inside.handed inside.held ≡ [] = rw (← c.self.view_is) at c.requires.none in
    let zero = none_handed inside.handed inside.held c.self.invariant.1 none in
    let gathers : Gathers (left inside.source) (left now.source) (drop inside.handed inside.held) now.held = subst (λ n. Gathers (left inside.source) (left now.source) (drop n inside.held) now.held) (sym zero) c.gather.ensures.gathers in
    let enough : c.needed-enough.result ≡ needed inside.tail = (rw (← c.self.view_is) at c.needed-enough.ensures.value) in
    rw (← c.self.view_is) (find_failed left was (record { source = now.source; held = now.held; number = inside.number; packet = []; tail = inside.tail; passed = inside.passed; ended = now.ended; stop = inside.stop }) now.held gathers (subst (λ n. length now.held < n) enough c.in_default.ensures.short.1) c.in_default.ensures.short.0)

pub returns-in_default-clause-lazy : goal.returns-in_default-clause-lazy
returns-in_default-clause-lazy g c =
    let inside = c.self.inside in
    let now = c.gather.new in
    let left = g.S.Source.left in
    let was : Finding g.row.S.Denot = record { source = inside.source; held = drop inside.handed inside.held; number = inside.number; packet = take inside.handed inside.held; tail = inside.tail; passed = inside.passed; ended = inside.ended; stop = inside.stop } in
    let none : take inside.handed inside.held ≡ [] = rw (← c.self.view_is) at c.requires.none in
    let zero = none_handed inside.handed inside.held c.self.invariant.1 none in
    let enough : c.needed-enough.result ≡ needed inside.tail = (rw (← c.self.view_is) at c.needed-enough.ensures.value) in
    let still = λ (holds : HoldsPiece c.args.self.now). nothing_asked was now.source now.ended now.held (rw (← c.self.view_is) at holds)
    (λ e. (let o = c.gather.ensures.over e in (o.0, o.1, o.2 ∙ ap (λ n. drop n inside.held) (sym zero))))
    (λ e. (let o = c.gather.ensures.lazy (subst (λ n. n ≤ length inside.held) (sym enough) (subst (λ n. needed inside.tail ≤ length (drop n inside.held)) zero e)) in (o.0, o.1, o.2 ∙ ap (λ n. drop n inside.held) (sym zero)))) in
    λ holds. (still holds).1 ∙ ap (λ v. v.source) c.self.view_is

pub returns-then-size-skip-clause-finds : goal.returns-then-size-skip-clause-finds
returns-then-size-skip-clause-finds g c =
    let inside = c.self.inside in
    let now = c.gather.new in
    let left = g.S.Source.left in
    let was : Finding g.row.S.Denot = record { source = inside.source; held = drop inside.handed inside.held; number = inside.number; packet = take inside.handed inside.held; tail = inside.tail; passed = inside.passed; ended = inside.ended; stop = inside.stop } in
    let none : take inside.handed inside.held ≡ [] = rw (← c.self.view_is) at c.requires.none in
    let zero = none_handed inside.handed inside.held c.self.invariant.1 none in
    let gathers : Gathers (left inside.source) (left now.source) (drop inside.handed inside.held) now.held = subst (λ n. Gathers (left inside.source) (left now.source) (drop n inside.held) now.held) (sym zero) c.gather.ensures.gathers in
    let few : length now.held ≤ unwrap_or inside.tail 0 = omega (arith, c.if-size-skip.true, ap length c.bytes-size.ensures, c.unwrap_or-skip.ensures) in
    rw (← c.self.view_is) (find_end left was (record { source = now.source; held = []; number = inside.number; packet = []; tail = inside.tail; passed = inside.passed; ended = now.ended; stop = inside.stop }) now.held gathers few)

pub returns-then-size-skip-clause-lazy : goal.returns-then-size-skip-clause-lazy
returns-then-size-skip-clause-lazy g c =
    let inside = c.self.inside in
    let now = c.gather.new in
    let left = g.S.Source.left in
    let was : Finding g.row.S.Denot = record { source = inside.source; held = drop inside.handed inside.held; number = inside.number; packet = take inside.handed inside.held; tail = inside.tail; passed = inside.passed; ended = inside.ended; stop = inside.stop } in
    let none : take inside.handed inside.held ≡ [] = rw (← c.self.view_is) at c.requires.none in
    let zero = none_handed inside.handed inside.held c.self.invariant.1 none in
    let enough : c.needed-enough.result ≡ needed inside.tail = (rw (← c.self.view_is) at c.needed-enough.ensures.value) in
    let still = λ (holds : HoldsPiece c.args.self.now). nothing_asked was now.source now.ended now.held (rw (← c.self.view_is) at holds)
    (λ e. (let o = c.gather.ensures.over e in (o.0, o.1, o.2 ∙ ap (λ n. drop n inside.held) (sym zero))))
    (λ e. (let o = c.gather.ensures.lazy (subst (λ n. n ≤ length inside.held) (sym enough) (subst (λ n. needed inside.tail ≤ length (drop n inside.held)) zero e)) in (o.0, o.1, o.2 ∙ ap (λ n. drop n inside.held) (sym zero)))) in
    λ holds. (still holds).1 ∙ ap (λ v. v.source) c.self.view_is

pub invariant_of-self-then-self-eq-PACKETS : goal.invariant_of-self-then-self-eq-PACKETS
invariant_of-self-then-self-eq-PACKETS g c =
    let inside = c.self.inside in
    let now = c.gather.new in
    let left = g.S.Source.left in
    let was : Finding g.row.S.Denot = record { source = inside.source; held = drop inside.handed inside.held; number = inside.number; packet = take inside.handed inside.held; tail = inside.tail; passed = inside.passed; ended = inside.ended; stop = inside.stop } in
    let none : take inside.handed inside.held ≡ [] = rw (← c.self.view_is) at c.requires.none in
    let zero = none_handed inside.handed inside.held c.self.invariant.1 none in
    let gathers : Gathers (left inside.source) (left now.source) (drop inside.handed inside.held) now.held = subst (λ n. Gathers (left inside.source) (left now.source) (drop n inside.held) now.held) (sym zero) c.gather.ensures.gathers in
    let over : inside.ended ≡ true → (now.ended ≡ true) × (now.held ≡ drop inside.handed inside.held) = λ e. (let o = c.gather.ensures.over e in (o.0, o.2 ∙ ap (λ n. drop n inside.held) (sym zero))) in
    let begins : inside.passed ≡ true → (inside.tail ≡ None) × BeginsOrEnds now.ended now.held = λ e.
    let before = c.self.invariant.4 e in
    (before.0, begins_still inside.ended now.ended (drop inside.handed inside.held) now.held gathers.0 gathers.1 over before.1) in
    (c.self.invariant.0, subst (λ n. n ≤ length now.held) (sym zero) (omega arith), c.self.invariant.2, c.gather.ensures.end, λ e. (let b = begins e in (b.0, subst (λ n. BeginsOrEnds now.ended (drop n now.held)) (sym zero) b.1)))

pub returns-then-self-eq-PACKETS-clause-finds : goal.returns-then-self-eq-PACKETS-clause-finds
returns-then-self-eq-PACKETS-clause-finds g c =
    let inside = c.self.inside in
    let now = c.gather.new in
    let left = g.S.Source.left in
    let was : Finding g.row.S.Denot = record { source = inside.source; held = drop inside.handed inside.held; number = inside.number; packet = take inside.handed inside.held; tail = inside.tail; passed = inside.passed; ended = inside.ended; stop = inside.stop } in
    let none : take inside.handed inside.held ≡ [] = rw (← c.self.view_is) at c.requires.none in
    let zero = none_handed inside.handed inside.held c.self.invariant.1 none in
    let gathers : Gathers (left inside.source) (left now.source) (drop inside.handed inside.held) now.held = subst (λ n. Gathers (left inside.source) (left now.source) (drop n inside.held) now.held) (sym zero) c.gather.ensures.gathers in
    let enough : c.needed-enough.result ≡ needed inside.tail = (rw (← c.self.view_is) at c.needed-enough.ensures.value) in
    let judged : IsJudged now.ended inside.tail now.held = record {
      enough = λ going. subst (λ n. n ≤ length now.held) enough (c.in-Ok.ensures.enough going);
      some = omega (arith, c.if-size-skip.false, ap length c.bytes-size.ensures, c.unwrap_or-skip.ensures);
    } in
    rw (← c.self.view_is) (find_past left was (record { source = now.source; held = now.held; number = inside.number; packet = []; tail = inside.tail; passed = inside.passed; ended = now.ended; stop = inside.stop }) now.held gathers judged c.if-self-eq-PACKETS.true)

pub returns-then-self-eq-PACKETS-clause-lazy : goal.returns-then-self-eq-PACKETS-clause-lazy
returns-then-self-eq-PACKETS-clause-lazy g c =
    let inside = c.self.inside in
    let now = c.gather.new in
    let left = g.S.Source.left in
    let was : Finding g.row.S.Denot = record { source = inside.source; held = drop inside.handed inside.held; number = inside.number; packet = take inside.handed inside.held; tail = inside.tail; passed = inside.passed; ended = inside.ended; stop = inside.stop } in
    let none : take inside.handed inside.held ≡ [] = rw (← c.self.view_is) at c.requires.none in
    let zero = none_handed inside.handed inside.held c.self.invariant.1 none in
    let enough : c.needed-enough.result ≡ needed inside.tail = (rw (← c.self.view_is) at c.needed-enough.ensures.value) in
    let still = λ (holds : HoldsPiece c.args.self.now). nothing_asked was now.source now.ended now.held (rw (← c.self.view_is) at holds)
    (λ e. (let o = c.gather.ensures.over e in (o.0, o.1, o.2 ∙ ap (λ n. drop n inside.held) (sym zero))))
    (λ e. (let o = c.gather.ensures.lazy (subst (λ n. n ≤ length inside.held) (sym enough) (subst (λ n. needed inside.tail ≤ length (drop n inside.held)) zero e)) in (o.0, o.1, o.2 ∙ ap (λ n. drop n inside.held) (sym zero)))) in
    λ holds. (still holds).1 ∙ ap (λ v. v.source) c.self.view_is

pub invariant_of-self-then-is_packet_at : goal.invariant_of-self-then-is_packet_at
invariant_of-self-then-is_packet_at g c =
    let inside = c.self.inside in
    let now = c.gather.new in
    let left = g.S.Source.left in
    let was : Finding g.row.S.Denot = record { source = inside.source; held = drop inside.handed inside.held; number = inside.number; packet = take inside.handed inside.held; tail = inside.tail; passed = inside.passed; ended = inside.ended; stop = inside.stop } in
    let none : take inside.handed inside.held ≡ [] = rw (← c.self.view_is) at c.requires.none in
    let zero = none_handed inside.handed inside.held c.self.invariant.1 none in
    let gathers : Gathers (left inside.source) (left now.source) (drop inside.handed inside.held) now.held = subst (λ n. Gathers (left inside.source) (left now.source) (drop n inside.held) now.held) (sym zero) c.gather.ensures.gathers in
    let over : inside.ended ≡ true → (now.ended ≡ true) × (now.held ≡ drop inside.handed inside.held) = λ e. (let o = c.gather.ensures.over e in (o.0, o.2 ∙ ap (λ n. drop n inside.held) (sym zero))) in
    let begins : inside.passed ≡ true → (inside.tail ≡ None) × BeginsOrEnds now.ended now.held = λ e.
    let before = c.self.invariant.4 e in
    (before.0, begins_still inside.ended now.ended (drop inside.handed inside.held) now.held gathers.0 gathers.1 over before.1) in (
      c.self.invariant.0,
      subst (λ n. n ≤ length c.consume-then-is_packet_at.new.self) (sym zero) (omega arith),
      c.self.invariant.2,
      c.gather.ensures.end,
      λ e.
          let b = begins e in
          let at : c.consume-then-is_packet_at.new.self ≡ now.held = c.consume-then-is_packet_at.ensures ∙ ap (λ n. drop n now.held) (c.unwrap_or-skip.ensures ∙ ap (λ (t : Option ℕ). unwrap_or t 0) b.0) in
          (b.0, subst (λ n. BeginsOrEnds now.ended (drop n c.consume-then-is_packet_at.new.self)) (sym zero) (subst (BeginsOrEnds now.ended) (sym at) b.1)),
    )

pub hand_out-requires-clause-none : goal.hand_out-requires-clause-none
hand_out-requires-clause-none g c =
    let inside = c.self.inside in
    let now = c.gather.new in
    let left = g.S.Source.left in
    let was : Finding g.row.S.Denot = record { source = inside.source; held = drop inside.handed inside.held; number = inside.number; packet = take inside.handed inside.held; tail = inside.tail; passed = inside.passed; ended = inside.ended; stop = inside.stop } in
    let none : take inside.handed inside.held ≡ [] = rw (← c.self.view_is) at c.requires.none in
    let zero = none_handed inside.handed inside.held c.self.invariant.1 none in
    ap (λ n. take n c.consume-then-is_packet_at.new.self) zero

pub hand_out-requires-clause-packet : goal.hand_out-requires-clause-packet
hand_out-requires-clause-packet g c =
    let inside = c.self.inside in
    let now = c.gather.new in
    let left = g.S.Source.left in
    let was : Finding g.row.S.Denot = record { source = inside.source; held = drop inside.handed inside.held; number = inside.number; packet = take inside.handed inside.held; tail = inside.tail; passed = inside.passed; ended = inside.ended; stop = inside.stop } in
    let none : take inside.handed inside.held ≡ [] = rw (← c.self.view_is) at c.requires.none in
    let zero = none_handed inside.handed inside.held c.self.invariant.1 none in
    let is : is_packet (take 188 (next_place inside.tail now.held)) ≡ true =
    ap (λ n. is_packet (take 188 (drop n now.held))) (sym c.unwrap_or-skip.ensures) ∙ ap (λ l. is_packet (take 188 (drop c.unwrap_or-skip.result l))) (sym c.bytes.ensures) ∙ sym c.is_packet_at.ensures ∙ c.if-is_packet_at.true in
    let place : drop inside.handed c.consume-then-is_packet_at.new.self ≡ next_place inside.tail now.held =
    ap (λ n. drop n c.consume-then-is_packet_at.new.self) zero ∙ c.consume-then-is_packet_at.ensures ∙ ap (λ n. drop n now.held) c.unwrap_or-skip.ensures in
    ap (λ l. is_packet (take 188 l)) place ∙ is

pub returns-then-is_packet_at-clause-finds : goal.returns-then-is_packet_at-clause-finds
returns-then-is_packet_at-clause-finds g c =
    let inside = c.self.inside in
    let now = c.gather.new in
    let left = g.S.Source.left in
    let was : Finding g.row.S.Denot = record { source = inside.source; held = drop inside.handed inside.held; number = inside.number; packet = take inside.handed inside.held; tail = inside.tail; passed = inside.passed; ended = inside.ended; stop = inside.stop } in
    let none : take inside.handed inside.held ≡ [] = rw (← c.self.view_is) at c.requires.none in
    let zero = none_handed inside.handed inside.held c.self.invariant.1 none in
    let gathers : Gathers (left inside.source) (left now.source) (drop inside.handed inside.held) now.held = subst (λ n. Gathers (left inside.source) (left now.source) (drop n inside.held) now.held) (sym zero) c.gather.ensures.gathers in
    let enough : c.needed-enough.result ≡ needed inside.tail = (rw (← c.self.view_is) at c.needed-enough.ensures.value) in
    let judged : IsJudged now.ended inside.tail now.held = record {
      enough = λ going. subst (λ n. n ≤ length now.held) enough (c.in-Ok.ensures.enough going);
      some = omega (arith, c.if-size-skip.false, ap length c.bytes-size.ensures, c.unwrap_or-skip.ensures);
    } in
    let room = below inside.number c.self.invariant.0 c.if-self-eq-PACKETS.false in
    let is : is_packet (take 188 (next_place inside.tail now.held)) ≡ true =
    ap (λ n. is_packet (take 188 (drop n now.held))) (sym c.unwrap_or-skip.ensures) ∙ ap (λ l. is_packet (take 188 (drop c.unwrap_or-skip.result l))) (sym c.bytes.ensures) ∙ sym c.is_packet_at.ensures ∙ c.if-is_packet_at.true in
    let place : drop inside.handed c.consume-then-is_packet_at.new.self ≡ next_place inside.tail now.held =
    ap (λ n. drop n c.consume-then-is_packet_at.new.self) zero ∙ c.consume-then-is_packet_at.ensures ∙ ap (λ n. drop n now.held) c.unwrap_or-skip.ensures in
    let mid : Finding g.row.S.Denot = record { source = now.source; held = drop inside.handed c.consume-then-is_packet_at.new.self; number = inside.number; packet = take inside.handed c.consume-then-is_packet_at.new.self; tail = inside.tail; passed = inside.passed; ended = now.ended; stop = inside.stop } in
    rw (← c.self.view_is, c.hand_out.ensures.new, c.hand_out.ensures.result) (find_packet left was mid now.held inside.number gathers judged is room place refl refl)

pub returns-then-is_packet_at-clause-counts : goal.returns-then-is_packet_at-clause-counts
returns-then-is_packet_at-clause-counts g c =
    let inside = c.self.inside in
    let now = c.gather.new in
    let left = g.S.Source.left in
    let was : Finding g.row.S.Denot = record { source = inside.source; held = drop inside.handed inside.held; number = inside.number; packet = take inside.handed inside.held; tail = inside.tail; passed = inside.passed; ended = inside.ended; stop = inside.stop } in
    let none : take inside.handed inside.held ≡ [] = rw (← c.self.view_is) at c.requires.none in
    let zero = none_handed inside.handed inside.held c.self.invariant.1 none in
    let room = below inside.number c.self.invariant.0 c.if-self-eq-PACKETS.false in
    let is : is_packet (take 188 (next_place inside.tail now.held)) ≡ true =
    ap (λ n. is_packet (take 188 (drop n now.held))) (sym c.unwrap_or-skip.ensures) ∙ ap (λ l. is_packet (take 188 (drop c.unwrap_or-skip.result l))) (sym c.bytes.ensures) ∙ sym c.is_packet_at.ensures ∙ c.if-is_packet_at.true in
    let place : drop inside.handed c.consume-then-is_packet_at.new.self ≡ next_place inside.tail now.held =
    ap (λ n. drop n c.consume-then-is_packet_at.new.self) zero ∙ c.consume-then-is_packet_at.ensures ∙ ap (λ n. drop n now.held) c.unwrap_or-skip.ensures in
    let mid : Finding g.row.S.Denot = record { source = now.source; held = drop inside.handed c.consume-then-is_packet_at.new.self; number = inside.number; packet = take inside.handed c.consume-then-is_packet_at.new.self; tail = inside.tail; passed = inside.passed; ended = now.ended; stop = inside.stop } in
    rw (c.hand_out.ensures.result, c.hand_out.ensures.new, ← c.self.view_is) (counted_packet was mid inside.number refl refl room (ap (λ l. is_packet (take 188 l)) place ∙ is))

pub returns-then-is_packet_at-clause-lazy : goal.returns-then-is_packet_at-clause-lazy
returns-then-is_packet_at-clause-lazy g c =
    let inside = c.self.inside in
    let now = c.gather.new in
    let left = g.S.Source.left in
    let was : Finding g.row.S.Denot = record { source = inside.source; held = drop inside.handed inside.held; number = inside.number; packet = take inside.handed inside.held; tail = inside.tail; passed = inside.passed; ended = inside.ended; stop = inside.stop } in
    let none : take inside.handed inside.held ≡ [] = rw (← c.self.view_is) at c.requires.none in
    let zero = none_handed inside.handed inside.held c.self.invariant.1 none in
    let enough : c.needed-enough.result ≡ needed inside.tail = (rw (← c.self.view_is) at c.needed-enough.ensures.value) in
    let still = λ (holds : HoldsPiece c.args.self.now). nothing_asked was now.source now.ended now.held (rw (← c.self.view_is) at holds)
    (λ e. (let o = c.gather.ensures.over e in (o.0, o.1, o.2 ∙ ap (λ n. drop n inside.held) (sym zero))))
    (λ e. (let o = c.gather.ensures.lazy (subst (λ n. n ≤ length inside.held) (sym enough) (subst (λ n. needed inside.tail ≤ length (drop n inside.held)) zero e)) in (o.0, o.1, o.2 ∙ ap (λ n. drop n inside.held) (sym zero)))) in
    λ holds. ap (λ v. v.source) c.hand_out.ensures.new ∙ (still holds).1 ∙ ap (λ v. v.source) c.self.view_is

pub invariant_of-self-else-is_packet_at : goal.invariant_of-self-else-is_packet_at
invariant_of-self-else-is_packet_at g c =
    let inside = c.self.inside in
    let now = c.gather.new in
    let left = g.S.Source.left in
    let was : Finding g.row.S.Denot = record { source = inside.source; held = drop inside.handed inside.held; number = inside.number; packet = take inside.handed inside.held; tail = inside.tail; passed = inside.passed; ended = inside.ended; stop = inside.stop } in
    let none : take inside.handed inside.held ≡ [] = rw (← c.self.view_is) at c.requires.none in
    let zero = none_handed inside.handed inside.held c.self.invariant.1 none in
    let gathers : Gathers (left inside.source) (left now.source) (drop inside.handed inside.held) now.held = subst (λ n. Gathers (left inside.source) (left now.source) (drop n inside.held) now.held) (sym zero) c.gather.ensures.gathers in
    let over : inside.ended ≡ true → (now.ended ≡ true) × (now.held ≡ drop inside.handed inside.held) = λ e. (let o = c.gather.ensures.over e in (o.0, o.2 ∙ ap (λ n. drop n inside.held) (sym zero))) in
    let begins : inside.passed ≡ true → (inside.tail ≡ None) × BeginsOrEnds now.ended now.held = λ e.
    let before = c.self.invariant.4 e in
    (before.0, begins_still inside.ended now.ended (drop inside.handed inside.held) now.held gathers.0 gathers.1 over before.1) in
    (c.self.invariant.0, subst (λ n. n ≤ length now.held) (sym zero) (omega arith), c.self.invariant.2, c.gather.ensures.end, λ e. (let b = begins e in (b.0, subst (λ n. BeginsOrEnds now.ended (drop n now.held)) (sym zero) b.1)))

pub seek-requires-clause-lost : goal.seek-requires-clause-lost
seek-requires-clause-lost g c =
    let inside = c.self.inside in
    let now = c.gather.new in
    let left = g.S.Source.left in
    let was : Finding g.row.S.Denot = record { source = inside.source; held = drop inside.handed inside.held; number = inside.number; packet = take inside.handed inside.held; tail = inside.tail; passed = inside.passed; ended = inside.ended; stop = inside.stop } in
    let none : take inside.handed inside.held ≡ [] = rw (← c.self.view_is) at c.requires.none in
    let zero = none_handed inside.handed inside.held c.self.invariant.1 none in
    let gathers : Gathers (left inside.source) (left now.source) (drop inside.handed inside.held) now.held = subst (λ n. Gathers (left inside.source) (left now.source) (drop n inside.held) now.held) (sym zero) c.gather.ensures.gathers in
    let over : inside.ended ≡ true → (now.ended ≡ true) × (now.held ≡ drop inside.handed inside.held) = λ e. (let o = c.gather.ensures.over e in (o.0, o.2 ∙ ap (λ n. drop n inside.held) (sym zero))) in
    let begins : inside.passed ≡ true → (inside.tail ≡ None) × BeginsOrEnds now.ended now.held = λ e.
    let before = c.self.invariant.4 e in
    (before.0, begins_still inside.ended now.ended (drop inside.handed inside.held) now.held gathers.0 gathers.1 over before.1) in
    let enough : c.needed-enough.result ≡ needed inside.tail = (rw (← c.self.view_is) at c.needed-enough.ensures.value) in
    let judged : IsJudged now.ended inside.tail now.held = record {
      enough = λ going. subst (λ n. n ≤ length now.held) enough (c.in-Ok.ensures.enough going);
      some = omega (arith, c.if-size-skip.false, ap length c.bytes-size.ensures, c.unwrap_or-skip.ensures);
    } in
    let room = below inside.number c.self.invariant.0 c.if-self-eq-PACKETS.false in
    let other : is_packet (take 188 (next_place inside.tail now.held)) ≡ false =
    ap (λ n. is_packet (take 188 (drop n now.held))) (sym c.unwrap_or-skip.ensures) ∙ ap (λ l. is_packet (take 188 (drop c.unwrap_or-skip.result l))) (sym c.bytes.ensures) ∙ sym c.is_packet_at.ensures ∙ c.if-is_packet_at.false in
    subst (λ n. LostSync {S = g.row.S.Denot} (record { source = now.source; held = drop n now.held; number = inside.number; packet = take n now.held; tail = inside.tail; passed = inside.passed; ended = now.ended; stop = inside.stop })) (sym zero)
    (record { enough = judged.enough; some = judged.some; none = other; room = room; first = not_passed inside.passed now.ended inside.tail now.held begins judged.some other })

pub returns-clause-finds : goal.returns-clause-finds
returns-clause-finds g c =
    let inside = c.self.inside in
    let now = c.gather.new in
    let left = g.S.Source.left in
    let was : Finding g.row.S.Denot = record { source = inside.source; held = drop inside.handed inside.held; number = inside.number; packet = take inside.handed inside.held; tail = inside.tail; passed = inside.passed; ended = inside.ended; stop = inside.stop } in
    let none : take inside.handed inside.held ≡ [] = rw (← c.self.view_is) at c.requires.none in
    let zero = none_handed inside.handed inside.held c.self.invariant.1 none in
    let gathers : Gathers (left inside.source) (left now.source) (drop inside.handed inside.held) now.held = subst (λ n. Gathers (left inside.source) (left now.source) (drop n inside.held) now.held) (sym zero) c.gather.ensures.gathers in
    let mid : Finding g.row.S.Denot = record { source = now.source; held = drop inside.handed now.held; number = inside.number; packet = take inside.handed now.held; tail = inside.tail; passed = inside.passed; ended = now.ended; stop = inside.stop } in
    let came = subst (λ n. Gathers (left inside.source) (left now.source) (drop inside.handed inside.held) (drop n now.held)) (sym zero) gathers in
    subst (λ o. FindsOn left o c.seek.new.self c.seek.result) c.self.view_is (find_seek left was mid c.seek.new.self c.seek.result came refl refl c.seek.ensures.finds)

pub returns-clause-lazy : goal.returns-clause-lazy
returns-clause-lazy g c =
    let inside = c.self.inside in
    let now = c.gather.new in
    let left = g.S.Source.left in
    let was : Finding g.row.S.Denot = record { source = inside.source; held = drop inside.handed inside.held; number = inside.number; packet = take inside.handed inside.held; tail = inside.tail; passed = inside.passed; ended = inside.ended; stop = inside.stop } in
    let none : take inside.handed inside.held ≡ [] = rw (← c.self.view_is) at c.requires.none in
    let zero = none_handed inside.handed inside.held c.self.invariant.1 none in
    let enough : c.needed-enough.result ≡ needed inside.tail = (rw (← c.self.view_is) at c.needed-enough.ensures.value) in
    let still = λ (holds : HoldsPiece c.args.self.now). nothing_asked was now.source now.ended now.held (rw (← c.self.view_is) at holds)
    (λ e. (let o = c.gather.ensures.over e in (o.0, o.1, o.2 ∙ ap (λ n. drop n inside.held) (sym zero))))
    (λ e. (let o = c.gather.ensures.lazy (subst (λ n. n ≤ length inside.held) (sym enough) (subst (λ n. needed inside.tail ≤ length (drop n inside.held)) zero e)) in (o.0, o.1, o.2 ∙ ap (λ n. drop n inside.held) (sym zero)))) in
    let mid : Finding g.row.S.Denot = record { source = now.source; held = drop inside.handed now.held; number = inside.number; packet = take inside.handed now.held; tail = inside.tail; passed = inside.passed; ended = now.ended; stop = inside.stop } in
    λ holds.
    let same = still holds in
    c.seek.ensures.lazy (holds_still was mid (rw (← c.self.view_is) at holds) same.0 (ap (λ n. drop n now.held) zero ∙ same.2) refl refl) ∙ same.1 ∙ ap (λ v. v.source) c.self.view_is
