-- The edits that give a service its names and events back.
use Rattle.std.specs.Prelude.{ℕ, List, ◌∷◌, map, option_map}
use Rattle.si_time.specs.Moments.{moment_text, duration_text}
use Rattle.guide_model.specs.declared.event.Event.{Event}
use Rattle.guide_model.specs.declared.event.Rating.{Rating}
use Rattle.guide_model.specs.declared.guide.ServiceGuide.{ServiceGuide}
use Rattle.journal_model.specs.declared.edit.RawRating.{RawRating}
use Rattle.journal_model.specs.declared.edit.Item.{Item}
use Rattle.journal_model.specs.declared.edit.Edit.{Edit}
use Rattle.journal_model.specs.declared.edit.Edit.TheVariants.{Put, Clear, Name}

-- the rating as an item gives it
abbrev pub raw_rating : Rating → RawRating
raw_rating rating = record { country = rating.country; value = rating.value }

-- the item that gives an event
abbrev pub event_item : Event → Item
event_item event = record {
  id = event.id;
  start = record { 0 = moment_text event.start.0 };
  length = record { 0 = duration_text event.seconds };
  language = event.language;
  name = event.name;
  short = event.short;
  extended = event.extended;
  rating = option_map raw_rating event.rating;
  genres = event.genres;
  descriptors = event.descriptors;
}

-- a put of each event
abbrev pub put_edits : ℕ → List Event → List Edit
put_edits service events = map (λ (event : Event). Put service (event_item event)) events

-- a service's names, and then its events in ascending order of start
abbrev pub filling : ServiceGuide → List Edit
filling guide = Name guide.service guide.provider guide.name ∷ put_edits guide.service guide.events

-- the same, in place of the events that stand
abbrev pub refilling : ServiceGuide → List Edit
refilling guide = Clear guide.service ∷ filling guide
