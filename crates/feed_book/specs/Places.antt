-- Where events are put in lists.
use Rattle.std.specs.Prelude.{◌≡◌, ◌≤◌, List, [], ◌∷◌, map, insert, remove}
use Rattle.guide_model.specs.declared.event.Event.{Event}
use Rattle.journal_model.specs.declared.edit.Item.{Item}
use Rattle.feed_book.specs.declared.index.IndexedEvent.{IndexedEvent}
use Rattle.feed_book.specs.declared.index.Place.{Place}
use Rattle.feed_book.specs.declared.new_event.NewEvent.{NewEvent}
use Rattle.guide_limits.specs.Readings.{event_of}
use Rattle.guide_limits.specs.Sound.{AreApart}
use Rattle.feed_book.specs.Replies.{put}
use Rattle.feed_book.specs.Index.{slot_of}

-- a place past the end is the end
abbrev pub put_at : {X : Type 0} → Place → List X → X → List X
put_at place xs x = insert (remove xs place.gone) place.to x

-- at this place an event of this slot is put, whatever the events with this index
abbrev pub IsPlace : List IndexedEvent → IndexedEvent → Place → Type 0
IsPlace slots slot place = (events : List Event) (event : Event) → AreApart events → slots ≡ map slot_of events → slot ≡ slot_of event → put_at place events event ≡ put event events

-- the event of an item, with its slot and its place
pub record IsNew (slots : List IndexedEvent) (item : Item) (new : NewEvent) : Type 0 where
  pub event : new.event ≡ event_of item
  pub slot : new.slot ≡ slot_of new.event
  pub small : new.slot.size ≤ 1578
  pub place : IsPlace slots new.slot new.place

-- events that are put one after the other
abbrev pub all_put : List NewEvent → List Event → List Event
all_put [] events = events
all_put (new ∷ more) events = all_put more (put_at new.place events new.event)
