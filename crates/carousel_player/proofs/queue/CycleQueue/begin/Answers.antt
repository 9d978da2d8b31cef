use Rattle.std.proofs.Common.{◌≡◌, ℕ, List, length, sym, ap, ◌∙◌, subst}
use Rattle.section_codec.specs.declared.table.SubTable.{SubTable}
use Rattle.air_model.proofs.Planned.{all_at}
use Rattle.air_model.specs.Laying.{IsPlaced, order_under}
use Rattle.carousel_player.specs.Laying.{order_left, sections_left, AreToCome}
use Rattle.carousel_player.proofs.Places.{queue_fits, can_begin, order_goes_on}
use Rattle.carousel_player.proofs.queue.CycleQueue.begin.Goals as goal

-- the plan's order, of which the first was taken
pub invariant_of-self-2 : goal.invariant_of-self-2
invariant_of-self-2 c =
    let bytes = c.lay.new.self.bytes.items in
    let placed = c.lay.new.self.placed.items in
    let order = order_under c.args.tables.now.list (record { quota = c.args.quota; offsets = c.args.offsets.now }) in
    let goes_on : order_left c.next-self-inside.result c.next-self-inside.new.self ≡ order =
    order_goes_on c.next-self-inside.result c.in_ok-plan.plan c.next-self-inside.new.self c.next-self-inside.ensures.some c.next-self-inside.ensures.none
    ∙ c.in_ok-plan.ensures ∙ ap (λ (l : List SubTable). order_under l (record { quota = c.args.quota; offsets = c.args.offsets.now })) c.as_slice-list.ensures in
    subst (λ (o : List ℕ). AreToCome (length bytes) placed o) (sym goes_on)
    (record { within = c.in_ok-lay.ensures.within c.args.quota; sections = all_at (IsPlaced (length bytes)) placed order c.in_ok-lay.ensures.placed })

pub returns-clause-begun : goal.returns-clause-begun
returns-clause-begun c =
    let bytes = c.lay.new.self.bytes.items in
    let placed = c.lay.new.self.placed.items in
    let left = order_left c.next-self-inside.result c.next-self-inside.new.self in
    can_begin (sections_left bytes placed left) (queue_fits bytes placed left (invariant_of-self-2 c))
