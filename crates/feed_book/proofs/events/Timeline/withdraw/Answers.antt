use Rattle.std.proofs.Common.{◌≡◌, List, sym, ◌∙◌, ap, ap₂, subst, remove, arith}
use Rattle.guide_model.specs.declared.event.Event.{Event}
use Rattle.guide_model.specs.declared.guide.ServiceGuide.{ServiceGuide}
use Rattle.feed_book.specs.Replies.{without}
use Rattle.feed_book.specs.Index.{AreIndexed}
use Rattle.feed_book.proofs.Indexed.{indexed-remove, not_there}
use Rattle.feed_book.proofs.events.Timeline.withdraw.Goals as goal

with : (guide : ServiceGuide) (es : List Event) → ServiceGuide
with guide es = record guide { events = es }

gone : (c : goal.After-drop-gone-5) → (c.remove-gone.new.self.items ≡ without c.args.id c.self.inside.page.guide.events) × AreIndexed (without c.args.id c.self.inside.page.guide.events) c.remove.new.self.items
gone c =
    let at = c.place_of_id-at.result in
    let guide = c.self.inside.page.guide in
    let both = indexed-remove c.args.id at guide.events c.deref.result.now (subst (AreIndexed guide.events) (sym c.deref.ensures.value) c.self.invariant.events) c.place_of_id-at.ensures.place in (
      c.remove-gone.ensures.items ∙ ap (λ (es : List Event). remove es at) (c.events.view_is ∙ ap (λ (g : ServiceGuide). g.events) (c.change.ensures.value ∙ c.own.ensures.guide)) ∙ both.0,
      rw (c.remove.ensures.items, ← c.deref.ensures.value) both.1,
    )

pub returns-then-at-len-clause-guide : goal.returns-then-at-len-clause-guide
unfolding with
returns-then-at-len-clause-guide c =
    ap (with c.args.self.now)
    (not_there c.args.id c.place_of_id-at.result c.args.self.now.events c.self.inside.slots.items (subst (λ (g : ServiceGuide). AreIndexed g.events c.self.inside.slots.items) c.self.view_is c.self.invariant.events)
    (rw c.deref.ensures.value at c.place_of_id-at.ensures.place) (omega arith))

pub invariant_of-self-2 : goal.invariant_of-self-2
invariant_of-self-2 c =
    rw (c.change.ensures.value, c.own.ensures.guide, (gone c).0) (record { names = c.self.invariant.names; events = (gone c).1 })

pub returns-clause-guide : goal.returns-clause-guide
unfolding with
returns-clause-guide c =
    ap₂ with (c.change.ensures.value ∙ c.own.ensures.guide ∙ c.self.view_is) ((gone c).0 ∙ ap (λ (g : ServiceGuide). without c.args.id g.events) c.self.view_is)
