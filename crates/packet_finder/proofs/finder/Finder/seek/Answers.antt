use Rattle.std.proofs.Common.{◌≡◌, ◌≤◌, [], take, drop, length, true, false, refl, sym, ap, subst, ◌∙◌, arith}
use Rattle.std.specs.Prelude.{Ok, Err, None}
use Rattle.packet_finder.specs.Finding.{Finding, HoldsPiece}
use Rattle.packet_finder.specs.Steps.{PassesOver, HoldsRow, FindsOn}
use Rattle.packet_finder.proofs.Finds.{none_handed, seek_stop, seek_junk, seek_packet, packet_at_once, row_held, row_or_end, counted_packet}
use Rattle.packet_finder.proofs.finder.Finder.seek.Goals as goal

true-false : true ≡ false → ⊥
true-false e = cc

pub invariant_of-self : goal.invariant_of-self
invariant_of-self g c =
    let inside = c.self.inside in
    let none : take inside.handed inside.held ≡ [] = rw (← c.self.view_is) at c.requires.none in
    let zero = none_handed inside.handed inside.held c.self.invariant.1 none in
    let lost = rw (← c.self.view_is) at c.requires.lost in
    let first = lost.first in
    (c.self.invariant.0, subst (λ n. n ≤ length c.pass_over.new.held) (sym zero) (omega arith), c.self.invariant.2, c.pass_over.ensures.end, λ e. absurd (true-false (sym e ∙ first)))

pub returns-in-Err-clause-finds : goal.returns-in-Err-clause-finds
returns-in-Err-clause-finds g c =
    let inside = c.self.inside in
    let none : take inside.handed inside.held ≡ [] = rw (← c.self.view_is) at c.requires.none in
    let zero = none_handed inside.handed inside.held c.self.invariant.1 none in
    let lost = rw (← c.self.view_is) at c.requires.lost in
    let passes = subst (λ n. PassesOver (g.S.Source.left inside.source) (g.S.Source.left c.pass_over.new.source) inside.ended c.pass_over.new.ended (drop n inside.held) (drop n c.pass_over.new.held) (Err c.in-Err.stop)) (sym zero) c.in-Err.ensures.passes in
    let then : Finding g.row.S.Denot = record { source = c.pass_over.new.source; held = drop inside.handed c.pass_over.new.held; number = inside.number; packet = take inside.handed c.pass_over.new.held; tail = inside.tail; passed = inside.passed; ended = c.pass_over.new.ended; stop = inside.stop } in
    subst (λ o. FindsOn g.S.Source.left o then (Err c.in-Err.stop)) c.self.view_is (seek_stop g.S.Source.left _ then c.in-Err.stop lost passes)

pub returns-in-Err-clause-lazy : goal.returns-in-Err-clause-lazy
returns-in-Err-clause-lazy g c =
    let inside = c.self.inside in
    let none : take inside.handed inside.held ≡ [] = rw (← c.self.view_is) at c.requires.none in
    let zero = none_handed inside.handed inside.held c.self.invariant.1 none in
    let lost = rw (← c.self.view_is) at c.requires.lost in
    let view = c.self.view_is in
    let same : HoldsPiece c.args.self.now → c.pass_over.new.source ≡ inside.source = λ holds.
    let held = subst (λ n. HoldsRow inside.ended (drop n inside.held)) zero (row_held _ lost (rw (← view) at holds)) in
    (c.in-Err.ensures.lazy held).1 in
    λ holds. same holds ∙ ap (λ v. v.source) view

pub hand_out-requires-clause-packet : goal.hand_out-requires-clause-packet
hand_out-requires-clause-packet g c =
    let inside = c.self.inside in
    let none : take inside.handed inside.held ≡ [] = rw (← c.self.view_is) at c.requires.none in
    let zero = none_handed inside.handed inside.held c.self.invariant.1 none in
    let lost = rw (← c.self.view_is) at c.requires.lost in
    let passes = subst (λ n. PassesOver (g.S.Source.left inside.source) (g.S.Source.left c.pass_over.new.source) inside.ended c.pass_over.new.ended (drop n inside.held) (drop n c.pass_over.new.held) (Ok c.in-Ok.count)) (sym zero) c.in-Ok.ensures.passes in
    let at_once = subst (λ k. PassesOver (g.S.Source.left inside.source) (g.S.Source.left c.pass_over.new.source) inside.ended c.pass_over.new.ended (drop inside.handed inside.held) (drop inside.handed c.pass_over.new.held) (Ok k)) c.if-count-eq0.true passes in
    packet_at_once _ _ _ _ _ lost at_once

pub returns-then-count-eq0-clause-finds : goal.returns-then-count-eq0-clause-finds
returns-then-count-eq0-clause-finds g c =
    let inside = c.self.inside in
    let none : take inside.handed inside.held ≡ [] = rw (← c.self.view_is) at c.requires.none in
    let zero = none_handed inside.handed inside.held c.self.invariant.1 none in
    let lost = rw (← c.self.view_is) at c.requires.lost in
    let passes = subst (λ n. PassesOver (g.S.Source.left inside.source) (g.S.Source.left c.pass_over.new.source) inside.ended c.pass_over.new.ended (drop n inside.held) (drop n c.pass_over.new.held) (Ok c.in-Ok.count)) (sym zero) c.in-Ok.ensures.passes in
    let at_once = subst (λ k. PassesOver (g.S.Source.left inside.source) (g.S.Source.left c.pass_over.new.source) inside.ended c.pass_over.new.ended (drop inside.handed inside.held) (drop inside.handed c.pass_over.new.held) (Ok k)) c.if-count-eq0.true passes in
    rw (← c.self.view_is, c.hand_out.ensures.new, c.hand_out.ensures.result) (seek_packet g.S.Source.left _ (record { source = c.pass_over.new.source; held = drop inside.handed c.pass_over.new.held; number = inside.number; packet = take inside.handed c.pass_over.new.held; tail = None; passed = inside.passed; ended = c.pass_over.new.ended; stop = inside.stop }) inside.number lost at_once refl refl)

pub returns-then-count-eq0-clause-counts : goal.returns-then-count-eq0-clause-counts
returns-then-count-eq0-clause-counts g c =
    let inside = c.self.inside in
    let none : take inside.handed inside.held ≡ [] = rw (← c.self.view_is) at c.requires.none in
    let zero = none_handed inside.handed inside.held c.self.invariant.1 none in
    let lost = rw (← c.self.view_is) at c.requires.lost in
    let passes = subst (λ n. PassesOver (g.S.Source.left inside.source) (g.S.Source.left c.pass_over.new.source) inside.ended c.pass_over.new.ended (drop n inside.held) (drop n c.pass_over.new.held) (Ok c.in-Ok.count)) (sym zero) c.in-Ok.ensures.passes in
    let at_once = subst (λ k. PassesOver (g.S.Source.left inside.source) (g.S.Source.left c.pass_over.new.source) inside.ended c.pass_over.new.ended (drop inside.handed inside.held) (drop inside.handed c.pass_over.new.held) (Ok k)) c.if-count-eq0.true passes in
    rw (c.hand_out.ensures.result, c.hand_out.ensures.new, ← c.self.view_is) (counted_packet (record { source = c.pass_over.new.source; held = drop inside.handed c.pass_over.new.held; number = inside.number; packet = take inside.handed c.pass_over.new.held; tail = None; passed = inside.passed; ended = c.pass_over.new.ended; stop = inside.stop }) (record { source = c.pass_over.new.source; held = drop inside.handed c.pass_over.new.held; number = inside.number; packet = take inside.handed c.pass_over.new.held; tail = None; passed = inside.passed; ended = c.pass_over.new.ended; stop = inside.stop }) inside.number refl refl lost.room (packet_at_once _ _ _ _ _ lost at_once))

pub returns-then-count-eq0-clause-lazy : goal.returns-then-count-eq0-clause-lazy
returns-then-count-eq0-clause-lazy g c =
    let inside = c.self.inside in
    let none : take inside.handed inside.held ≡ [] = rw (← c.self.view_is) at c.requires.none in
    let zero = none_handed inside.handed inside.held c.self.invariant.1 none in
    let lost = rw (← c.self.view_is) at c.requires.lost in
    let view = c.self.view_is in
    let same : HoldsPiece c.args.self.now → c.pass_over.new.source ≡ inside.source = λ holds.
    let held = subst (λ n. HoldsRow inside.ended (drop n inside.held)) zero (row_held _ lost (rw (← view) at holds)) in
    (c.in-Ok.ensures.lazy held).1 in
    λ holds. ap (λ v. v.source) c.hand_out.ensures.new ∙ same holds ∙ ap (λ v. v.source) view

pub invariant_of-self-2 : goal.invariant_of-self-2
invariant_of-self-2 g c =
    let inside = c.self.inside in
    let none : take inside.handed inside.held ≡ [] = rw (← c.self.view_is) at c.requires.none in
    let zero = none_handed inside.handed inside.held c.self.invariant.1 none in
    let lost = rw (← c.self.view_is) at c.requires.lost in
    let passes = subst (λ n. PassesOver (g.S.Source.left inside.source) (g.S.Source.left c.pass_over.new.source) inside.ended c.pass_over.new.ended (drop n inside.held) (drop n c.pass_over.new.held) (Ok c.in-Ok.count)) (sym zero) c.in-Ok.ensures.passes in
    (c.self.invariant.0, subst (λ n. n ≤ length c.pass_over.new.held) (sym zero) (omega arith), tt, c.pass_over.ensures.end, λ e. (refl, row_or_end _ _ passes.passed_to.2))

pub returns-clause-finds : goal.returns-clause-finds
returns-clause-finds g c =
    let inside = c.self.inside in
    let none : take inside.handed inside.held ≡ [] = rw (← c.self.view_is) at c.requires.none in
    let zero = none_handed inside.handed inside.held c.self.invariant.1 none in
    let lost = rw (← c.self.view_is) at c.requires.lost in
    let passes = subst (λ n. PassesOver (g.S.Source.left inside.source) (g.S.Source.left c.pass_over.new.source) inside.ended c.pass_over.new.ended (drop n inside.held) (drop n c.pass_over.new.held) (Ok c.in-Ok.count)) (sym zero) c.in-Ok.ensures.passes in
    rw (← c.self.view_is) (seek_junk g.S.Source.left _ (record { source = c.pass_over.new.source; held = drop inside.handed c.pass_over.new.held; number = inside.number; packet = take inside.handed c.pass_over.new.held; tail = None; passed = true; ended = c.pass_over.new.ended; stop = inside.stop }) c.in-Ok.count lost passes c.if-count-eq0.false refl refl)

pub returns-clause-lazy : goal.returns-clause-lazy
returns-clause-lazy g c =
    let inside = c.self.inside in
    let none : take inside.handed inside.held ≡ [] = rw (← c.self.view_is) at c.requires.none in
    let zero = none_handed inside.handed inside.held c.self.invariant.1 none in
    let lost = rw (← c.self.view_is) at c.requires.lost in
    let view = c.self.view_is in
    let same : HoldsPiece c.args.self.now → c.pass_over.new.source ≡ inside.source = λ holds.
    let held = subst (λ n. HoldsRow inside.ended (drop n inside.held)) zero (row_held _ lost (rw (← view) at holds)) in
    (c.in-Ok.ensures.lazy held).1 in
    λ holds. same holds ∙ ap (λ v. v.source) view
