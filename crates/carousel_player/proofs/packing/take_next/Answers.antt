use Rattle.std.proofs.Common.{ℕ, ◌+◌, ◌<◌, ◌≤◌, List, length, refl, sym, ◌∙◌, subst, arith}
use Rattle.air_model.specs.Air.{Sent}
use Rattle.carousel_player.specs.Queue.{first_bytes}
use Rattle.carousel_player.specs.Packing.{Took}
use Rattle.carousel_player.proofs.Steps.{Added, filled_other, filled_past, took_next}
use Rattle.carousel_player.proofs.packing.take_next.Goals as goal

pub returns-then-pid-clause-takes : goal.returns-then-pid-clause-takes
returns-then-pid-clause-takes g c =
    let old = c.args.packed.now in
    filled_other c.args.packer.now (g.Q.SectionQueue.sections old.queue) old.from c.in-Some.pid c.requires (sym c.in-Some.ensures.first) (λ e. c.if-pid.true (e ∙ sym c.pid-2.ensures))

pub returns-then-sent-size-clause-takes : goal.returns-then-sent-size-clause-takes
returns-then-sent-size-clause-takes g c =
    let old = c.args.packed.now in
    let ss = g.Q.SectionQueue.sections old.queue in
    let b = c.args.packer.now in
    let added : Added b c.add.new.self c.bytes-section.result.now old.from c.add.result = record { most = c.add.ensures.count; full = c.add.ensures.full; first = c.add.ensures.first; further = c.add.ensures.further } in
    let did = subst (λ (l : List ℕ). Added b c.add.new.self l old.from c.add.result) c.bytes-section.ensures added in
    filled_past b c.add.new.self ss old.from c.add.result c.in-Some.pid c.requires c.pid.ensures.fit (sym c.in-Some.ensures.first) (c.if-pid.false ∙ c.pid-2.ensures) did (subst (λ (l : List ℕ). old.from + c.add.result < length l) c.bytes-section.ensures c.if-sent-size.true)

pub returns-clause-takes : goal.returns-clause-takes
returns-clause-takes g c =
    let old = c.args.packed.now in
    let ss = g.Q.SectionQueue.sections old.queue in
    let b = c.args.packer.now in
    let added : Added b c.add.new.self c.bytes-section.result.now old.from c.add.result = record { most = c.add.ensures.count; full = c.add.ensures.full; first = c.add.ensures.first; further = c.add.ensures.further } in
    let did = subst (λ (l : List ℕ). Added b c.add.new.self l old.from c.add.result) c.bytes-section.ensures added in
    let whole : length (first_bytes ss) ≤ old.from + c.add.result = subst (λ (l : List ℕ). length l ≤ old.from + c.add.result) c.bytes-section.ensures (omega (arith, c.if-sent-size.false)) in (
      subst (λ (left : List Sent). Took b c.add.new.self ss left old.from) (sym c.pass.ensures.rest)
          (took_next b c.add.new.self ss old.from c.add.result c.in-Some.pid c.requires c.pid.ensures.fit (sym c.in-Some.ensures.first) (c.if-pid.false ∙ c.pid-2.ensures) did whole),
      refl,
    )
