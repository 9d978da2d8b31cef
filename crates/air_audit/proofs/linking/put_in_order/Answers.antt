use Rattle.std.proofs.Common.{◌≡◌, ◌<◌, ◌∷◌, ◌++◌, [], ℕ, List, Result, sym, ap, ◌∙◌, arith, length, get_or, if◌then◌else◌, is_ok}
use Rattle.std.proofs.lemmas.List.Elements.{All-from_recursion}
use Rattle.air_model.specs.declared.placed.Placed.{Placed}
use Rattle.air_audit.proofs.Begins.{places_more}
use Rattle.air_audit.proofs.linking.put_in_order.Goals as goal

pub loop-at-preserved : goal.loop-at-preserved
loop-at-preserved c =
    let each = c.args.each.now in
    let order = c.args.order.now in
    let i = c.loop-at.at-index in
    let at = get_or order i 0 in
    let p : Placed = get_or each at (record { pid = 0; start = 0; len = 0 }) in
    let old = c.loop-at.placed.items in
    let within = All-from_recursion (λ (k : ℕ). k < length each) order c.requires.within i 0 c.loop-at-test.true in
    let pushed : c.push.new.self.items ≡ old ++ p ∷ [] = c.push.ensures.items ∙ ap (λ (r : Result _ _). if is_ok r then old ++ p ∷ [] else old) c.unwrap.ensures in
    record {
      put = pushed ∙ ap (λ (l : List Placed). l ++ p ∷ []) c.loop-at.invariant.put ∙ sym (places_more each order i (record { pid = 0; start = 0; len = 0 }) c.loop-at-test.true within);
      few = omega (arith, c.push.ensures.upper_bound, c.loop-at.invariant.few);
      room = omega (arith, c.push.ensures.capacity, c.loop-at.invariant.room);
    }
