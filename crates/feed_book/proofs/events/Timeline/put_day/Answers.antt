use Rattle.std.proofs.Common.{◌≡◌, List, None, Some, refl, sym, ◌∙◌, ap, subst}
use Rattle.guide_model.specs.declared.event.Event.{Event}
use Rattle.guide_model.specs.declared.guide.ServiceGuide.{ServiceGuide}
use Rattle.feed_book.specs.declared.new_event.NewEvent.{NewEvent}
use Rattle.feed_book.specs.Replies.{off_day, item_fault}
use Rattle.feed_book.specs.Index.{AreIndexed, AreSearchable}
use Rattle.feed_book.specs.Places.{IsNew, put_at, all_put}
use Rattle.feed_book.proofs.Indexed.{searchable, new-put, indexed-new}
use Rattle.feed_book.proofs.DaySteps.{so_far, fine_on, so_far_more, indexed-off, all_put-push}
use Rattle.feed_book.proofs.events.Timeline.put_day.Goals as goal

pub loop-i-init : goal.loop-i-init
loop-i-init c = record {
  along = refl;
  indexed = indexed-off c.args.day c.args.self.now.events c.self.inside.slots.items c.in_ok-index.index.items (subst (λ (g : ServiceGuide). AreIndexed g.events c.self.inside.slots.items) c.self.view_is c.self.invariant.events) c.in_ok-index.ensures;
  puts = ap (λ (ns : List NewEvent). all_put ns (off_day c.args.day c.args.self.now.events)) c.in_ok-fresh.ensures.items;
}

pub read_item-requires : goal.read_item-requires
read_item-requires c = subst AreSearchable (sym c.deref.ensures.value) (searchable _ _ c.loop-i.invariant.indexed)

pub loop-i-preserved : goal.loop-i-preserved
loop-i-preserved c =
    let off = off_day c.args.day c.args.self.now.events in
    let item = c.index-items-i.result in
    let next = c.in-Ok.next in
    let slots = c.deref.result.now in
    let standing = so_far c.args.items.now off c.loop-i.i in
    let indexed : AreIndexed standing slots = subst (AreIndexed standing) (sym c.deref.ensures.value) c.loop-i.invariant.indexed in
    let new : IsNew slots item next = rw c.in-Ok.is at c.in_ok-next.ensures.event in
    let fine : None ≡ item_fault (Some c.args.day) standing item = rw c.in-Ok.is at c.in_ok-next.ensures.fault standing indexed.index in
    let more = so_far_more c.args.items.now off c.loop-i.i item c.loop-i-test.true c.index-items-i.is in
    record {
      along = fine_on c.args.day c.args.items.now off c.loop-i.i item c.loop-i-test.true c.index-items-i.is c.loop-i.invariant.along (sym fine);
      indexed = rw (more, c.put_at.ensures.items, c.in_ok-reserve.ensures.items, ← c.deref.ensures.value) (indexed-new (Some c.args.day) item standing slots next new indexed (sym fine));
      puts = ap (λ (ns : List NewEvent). all_put ns off) c.in_ok-push.ensures.items ∙ all_put-push c.loop-i.fresh.items next off
          ∙ ap (λ (es : List Event). put_at next.place es next.event) c.loop-i.invariant.puts ∙ new-put item standing slots next new indexed ∙ sym more;
    }
