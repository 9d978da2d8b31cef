use Rattle.std.proofs.Common.{◌≡◌, ◌+◌, ◌≤◌, ◌<◌, ◌∙◌, ℕ, List, [], length, take, drop, length-take-le, true, false, refl, sym, ap, arith}
use Rattle.packet_reader.specs.Recordings.{is_packet}
use Rattle.packet_reader.proofs.RecordingFacts.{is_long}
use Rattle.packet_finder.proofs.finder.Finder.hand_out.Goals as goal

false-true : false ≡ true → ⊥
false-true e = cc

none_handed : (n : ℕ) (held : List ℕ) → n ≤ length held → take n held ≡ [] → n ≡ 0
none_handed n held le none = let size = ap length none in omega (arith, le, size, length-take-le n held le)

below : (n : ℕ) → n < 4294967295 → n + 1 ≤ 4294967295
below n lt = omega (arith, lt)

pub returns-clause-new : goal.returns-clause-new
returns-clause-new g c =
    let inside = c.self.inside in
    let none : take inside.handed inside.held ≡ [] = rw (← c.self.view_is) at c.requires.none in
    let zero = none_handed inside.handed inside.held c.self.invariant.1 none in
    rw (← c.self.view_is, zero, c.tail_with.ensures.value, c.bytes.ensures) refl

pub invariant_of-self : goal.invariant_of-self
invariant_of-self g c =
    let inside = c.self.inside in
    let none : take inside.handed inside.held ≡ [] = rw (← c.self.view_is) at c.requires.none in
    let zero = none_handed inside.handed inside.held c.self.invariant.1 none in
    let is : is_packet (take 188 (drop inside.handed inside.held)) ≡ true = rw (← c.self.view_is) at c.requires.packet in
    let is0 : is_packet (take 188 inside.held) ≡ true = ap (λ n. is_packet (take 188 (drop n inside.held))) (sym zero) ∙ is in
    (below inside.number (rw (← c.self.view_is) at c.requires.room), is_long inside.held is0, c.tail_with.ensures.short c.self.invariant.2, c.self.invariant.3, λ e. absurd (false-true e))
