use Rattle.std.proofs.Common.{arith, ◌∙◌, ap, sym, subst, ◌<◌}
use Rattle.turn_lock.specs.Knowledge.{HasAny, AreApart, numbers}
use Rattle.turn_lock.specs.Rule.{all_of, joined_with}
use Rattle.turn_lock.proofs.Numbers.{apart_parts}
use Rattle.turn_lock.proofs.Moves.{joins, compares}
use Rattle.turn_lock.proofs.pass.Pass.join.Goals as goal

pub join_seat-requires : goal.join_seat-requires
join_seat-requires g c =
    let m = g.S.Chronicle in
    let key = c.turns.inside.table.shared.key in
    let seat = c.self.inside.seat in
    let other = c.other.inside.seat in
    let number : 0 < other.me.0.own.span = subst (λ z. 0 < z) c.other.invariant.4 c.other.invariant.5 in (
      ap (λ z. z.turns) c.self.view_is ∙ c.requires.turns.0 ∙ sym (ap (λ z. z.turns) c.turns.view_is),
      ap (λ z. z.turns) c.other.view_is ∙ c.requires.turns.1 ∙ sym (ap (λ z. z.turns) c.turns.view_is),
      c.other.invariant.0,
      omega (arith, c.turns.invariant.0),
      joins m.entries m.stands_on m.caller key.callers (m.stands_on key.first.value) seat.id seat.me.0 other.id other.me.0 c.self.invariant.1 c.other.invariant.1 number,
    )

pub load-requires : goal.load-requires
load-requires g c =
    let m = g.S.Chronicle in
    let shared = c.turns.inside.table.shared in
    let key = shared.key in
    let seat = c.join_seat.new.seat in
    let join = c.join_seat.ensures in (
      join.0 ∙ ap (λ z. z.turns) c.self.view_is ∙ c.requires.turns.0 ∙ sym (ap (λ z. z.turns) c.turns.view_is),
      omega (arith, c.turns.invariant.0),
      compares m.entries m.stands_on m.caller key.callers (m.stands_on key.first.value) shared.table_id.slots seat.id seat.me.0 seat.me.1 (ap (λ z. z.0.holder) join.2 ∙ c.self.invariant.1),
    )

pub returns-clause-apart : goal.returns-clause-apart
returns-clause-apart g c =
    let v = c.self.inside.seat.me.0 in
    let w = c.other.inside.seat.me.0 in
    let all : AreApart (all_of (joined_with v w)) = subst (λ z. AreApart (all_of z.0)) c.join_seat.ensures.2 c.load.ensures.2.3 in
    λ k h r. apart_parts (all_of v) (all_of w) all k (subst (λ z. HasAny (numbers z) k) (sym c.self.view_is) h) (subst (λ z. HasAny (numbers z) k) (sym c.other.view_is) r)
