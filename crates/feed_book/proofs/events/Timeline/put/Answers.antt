use Rattle.std.proofs.Common.{◌≡◌, List, None, sym, ◌∙◌, ap, subst}
use Rattle.guide_model.specs.declared.event.Event.{Event}
use Rattle.guide_model.specs.declared.guide.ServiceGuide.{ServiceGuide}
use Rattle.guide_limits.specs.Readings.{event_of}
use Rattle.feed_book.specs.Replies.{put, item_fault}
use Rattle.feed_book.specs.Index.{AreIndexed, AreSearchable}
use Rattle.feed_book.specs.Places.{IsNew, put_at}
use Rattle.feed_book.proofs.Indexed.{searchable, new-put, indexed-new}
use Rattle.feed_book.proofs.events.Timeline.put.Goals as goal

pub read_item-requires : goal.read_item-requires
read_item-requires c = subst AreSearchable (sym c.deref.ensures.value) (searchable _ _ c.self.invariant.events)

pub invariant_of-self-2 : goal.invariant_of-self-2
invariant_of-self-2 c =
    let guide = c.self.inside.page.guide in
    let slots = c.deref.result.now in
    let fresh = c.in-Ok.fresh in
    let indexed : AreIndexed guide.events slots = subst (AreIndexed guide.events) (sym c.deref.ensures.value) c.self.invariant.events in
    let new : IsNew slots c.args.item.now fresh = rw c.in-Ok.is at c.in_ok-fresh.ensures.event in
    let fine : None ≡ item_fault None guide.events c.args.item.now = rw c.in-Ok.is at c.in_ok-fresh.ensures.fault guide.events indexed.index in
    let same = c.change.ensures.value ∙ c.own.ensures.guide in
    let put_is : c.put_at.new.list.items ≡ put (event_of c.args.item.now) guide.events
    = c.put_at.ensures.items ∙ ap (λ (es : List Event). put_at fresh.place es fresh.event) (c.in_ok-reserve-2.ensures.items ∙ c.events.view_is ∙ ap (λ (g : ServiceGuide). g.events) same) ∙ new-put c.args.item.now guide.events slots fresh new indexed in
    rw (same, put_is, c.put_at-2.ensures.items, c.in_ok-reserve.ensures.items, ← c.deref.ensures.value)
    (record { names = c.self.invariant.names; events = indexed-new None c.args.item.now guide.events slots fresh new indexed (sym fine) })
