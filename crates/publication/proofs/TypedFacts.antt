-- The events that stand after edits as they are read have what each value of their type has.
use Rattle.std.proofs.Common.{◌≤◌, List, [], ◌∷◌, map, arith}
use Rattle.std.specs.Prelude.{Option, Some, None, IfSome}
use Rattle.std.specs.List.{AllByRecursion}
use Rattle.si_lists.proofs.Lists.{all_map}
use Rattle.guide_model.specs.Decoding.{IsKept}
use Rattle.guide_model.specs.Descriptors.{IsOfBytes}
use Rattle.guide_model.specs.declared.event.Event.{Event}
use Rattle.guide_model.specs.declared.event.Rating.{Rating}
use Rattle.guide_model.specs.declared.guide.ServiceGuide.{ServiceGuide}
use Rattle.descriptors.specs.ParentalRating.{HasThreeLetters}
use Rattle.mux_model.specs.Fed.{FedService, fed_services}
use Rattle.journal_model.specs.declared.edit.Item.{Item}
use Rattle.journal_model.specs.declared.edit.Edit.{Edit}
use Rattle.journal_model.specs.declared.edit.Edit.TheVariants.{Put, Withdraw, Clear, Name, Day}
use Rattle.journal_model.specs.Edits.{HasGenreNumbers, IsTypedItem, IsTypedEdit}
use Rattle.guide_limits.specs.KeptService.{KeptService}
use Rattle.guide_limits.specs.Guides.{kept_after}
use Rattle.guide_limits.specs.Readings.{event_of}
use Rattle.guide_limits.specs.Standing.{standing}
use Rattle.guide_limits.specs.Limits.{IsRatingWithin, IsEventWithin, IsServiceWithin}
use Rattle.publication.proofs.StandingFacts.{OfEachItem, standing_all}
use Rattle.table_bodies.specs.Eit.{IsTyped}
use Rattle.publication.specs.EitLaws.{ReadEditsLeaveTypedEvents}

-- what an event has of the item that gave it
pub record IsGiven (e : Event) : Type 0 where
  pub id : e.id ≤ 65535
  pub name : IsKept e.name
  pub short : IsKept e.short
  pub extended : IsKept e.extended
  pub genres : AllByRecursion HasGenreNumbers e.genres
  pub descriptors : AllByRecursion IsOfBytes e.descriptors

item_given : (item : Item) → IsTypedItem item → IsGiven (event_of item)
item_given item typed =
    record {
      id = typed.numbers.id;
      name = typed.name;
      short = typed.short;
      extended = typed.extended;
      genres = typed.numbers.genres;
      descriptors = typed.numbers.descriptors;
    }

pub edit_gives : (edit : Edit) → IsTypedEdit edit → OfEachItem IsGiven edit
edit_gives (Put service item) typed = item_given item typed.1
edit_gives (Withdraw service event) typed = tt
edit_gives (Clear service) typed = tt
edit_gives (Name service provider name) typed = tt
edit_gives (Day service day items) typed = all_map IsTypedItem (λ (item : Item). IsGiven (event_of item)) item_given items typed.1

-- and what it has where it is within its limits
three_letters : (rating : Option Rating) → IsRatingWithin rating → IfSome rating HasThreeLetters
three_letters None within = tt
three_letters (Some rating) within = within.0

typed : (e : Event) → IsGiven e → IsEventWithin e → IsTyped e
typed e given within = record {
  id = omega (arith, given.id);
  language = within.language.0;
  name = given.name;
  short = given.short;
  extended = given.extended;
  rating = three_letters e.rating within.rating;
}

all_typed : (es : List Event) → AllByRecursion IsGiven es → AllByRecursion IsEventWithin es → AllByRecursion IsTyped es
all_typed [] given within = tt
all_typed (e ∷ es) given within = (typed e given.0 within.0, all_typed es given.1 within.1)

services_typed : (past : List Edit) → AllByRecursion (OfEachItem IsGiven) past → (services : List FedService)
    → AllByRecursion IsServiceWithin (map (λ (kept : KeptService). kept.guide) (map (kept_after past) services))
    → AllByRecursion (λ (s : ServiceGuide). AllByRecursion IsTyped s.events) (map (λ (kept : KeptService). kept.guide) (map (kept_after past) services))
services_typed past given [] within = tt
services_typed past given (s ∷ services) within =
    (all_typed (standing s.service past) (standing_all IsGiven s.service past given) within.0.events.each, services_typed past given services within.1)

pub typed_left : ReadEditsLeaveTypedEvents
typed_left mux past moment read within = services_typed past (all_map IsTypedEdit (OfEachItem IsGiven) edit_gives past read) (fed_services mux) within.services
