use Rattle.std.proofs.Common.{◌≡◌, ◌++◌, ap, sym, ◌∙◌, subst, append-nil}
use Rattle.std.specs.Map.{keys_of}
use Rattle.sub_collect.specs.Collectors.{CollectorStandsOver}
use Rattle.sub_collect.proofs.KeyWalk.{keys_of-shown}
use Rattle.sub_collect.proofs.PartsHeld.{keys-over}
use Rattle.sub_collect.proofs.collector.Collector.keys_in_order.Goals as goal

pub loop-key-init : goal.loop-key-init
loop-key-init c =
    let slots = c.self.inside.slots.entries in
    ap (λ l. l ++ keys_of c.into_iter-key-iterator.result) c.in_ok-keys.ensures.items
    ∙ ap keys_of (c.into_iter-key-iterator.ensures.into_iter_gives ∙ c.iter-key-items.ensures.rest)
    ∙ sym (keys_of-shown slots) ∙ ap keys_of c.self.view_is

pub returns : goal.returns
returns c = λ past stands.
    let slots = c.self.inside.slots.entries in
    let keys = c.loop-key.keys.items in
    let all : keys ≡ keys_of c.args.self.now = sym (append-nil keys) ∙ ap (λ l. keys ++ keys_of l) (sym c.in-None.ensures.steps.0) ∙ c.loop-key.invariant in
    let kept = subst (CollectorStandsOver past) (sym c.self.view_is) stands in
    keys-over past slots c.iter-key-items.ensures.ordered kept.each keys (all ∙ ap keys_of (sym c.self.view_is))
