use Rattle.std.proofs.Common.{arith, ◌≡◌, ◌∙◌, ap, sym, subst, refl, [], ◌∷◌, Some}
use mathlib.Core.Option.{none}
use Rattle.atomic_table.specs.Table.{Allows, step, rest}
use Rattle.turn_lock.specs.Rule.{Kept, Releases}
use Rattle.turn_lock.proofs.Moves.{releases}
use Rattle.turn_lock.proofs.turns.put_back.Goals as goal

pub store-requires : goal.store-requires
store-requires g c =
    let m = g.S.Chronicle in
    let key = c.args.shared.now.key in
    let base = m.stands_on key.first.value in
    let n = c.args.shared.now.table_id.slots in
    let x = c.args.state in
    let ex = c.exchange-empty.ensures in
    let v = c.args.seat.now.me.0 in
    let id = c.exchange-empty.new.seat.id in
    let me : c.exchange-empty.new.seat.me ≡ (v, (0, Some x) ∷ []) = ex.3 ∙ ap (λ l. (v, (0, Some x) ∷ rest l)) c.requires.holds.0 in (
      ex.0 ∙ c.requires.table.0,
      omega (arith, c.requires.table.1),
      subst (λ z. Allows (Kept m.entries m.stands_on m.caller key.callers base) n id z 0 (λ _. 0) (λ _. Releases m.entries m.stands_on m.caller (step n 0 0 0 none) z 0))
          (sym me) (releases m.entries m.stands_on m.caller key.callers base n id v x (m.stands_on x) c.requires.holds.1 c.requires.holds.2 c.requires.counted.1 c.requires.stands refl),
    )
