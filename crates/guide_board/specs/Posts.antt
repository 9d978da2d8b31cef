-- What contracts see of a board: the posts that were made, the opening one first, and what a post says of a service.
use Rattle.std.specs.Prelude.{◌≡◌, ◌==◌, ◌⊎◌, ℕ, Bool, List, [], ◌∷◌, ◌++◌, slice_get, map, find, Option, Some, None, option_map, option_and_then}
use Rattle.std.specs.Prelude.{Result, MatchResult}
use Rattle.std.specs.List.{All, list_any}
use mathlib.Core.List.{IsPrefix}
pub use Rattle.logbook.specs.Pages.{Book}
use Rattle.guide_model.specs.declared.event.Event.{Event}
use Rattle.guide_model.specs.declared.guide.Guide.{Guide}
use Rattle.guide_model.specs.declared.guide.ServiceGuide.{ServiceGuide}
use Rattle.eit_segments.specs.Placement.{AreInOrder, present_at, following_at}
use Rattle.eit_segments.specs.Laws.{at_of}
use Rattle.guide_board.specs.declared.lines.Slot.{Slot}
use Rattle.guide_board.specs.declared.lines.NowNext.{NowNext}
use Rattle.guide_board.specs.declared.lines.NoService.{NoService}
use Rattle.guide_board.specs.declared.post.Post.{Post}

-- Which board it is of, and the posts that it knows of: the writer all, what was told those up to then, a viewer those up to
-- the newest that it read or learnt.
pub record Sight : Type 0 where
  pub board : Book
  pub posts : List Post

abbrev pub post : ℕ → Guide → Post
post number guide = record { number = number; guide = guide }

-- after one more post
abbrev pub with_post : Sight → ℕ → Guide → Sight
with_post sight number guide = record { board = sight.board; posts = sight.posts ++ post number guide ∷ [] }

-- of two lists of posts one begins the other
abbrev pub OneBegins : List Post → List Post → Type 0
OneBegins posts others = IsPrefix posts others ⊎ IsPrefix others posts

-- ---- what can be posted

-- the events of each service are in order, and none overlaps another
abbrev pub IsInOrder : Guide → Type 0
IsInOrder guide = All (λ (service : ServiceGuide). AreInOrder (map at_of service.events)) guide.services

abbrev pub services_of : Guide → List ℕ
services_of guide = map (λ (service : ServiceGuide). service.service) guide.services

-- the services of the opening post, which are those of each post
abbrev pub services_in : List Post → List ℕ
services_in [] = []
services_in (opening ∷ posts) = services_of opening.guide

-- is the service one of these?
abbrev pub serves : List ℕ → ℕ → Bool
serves services service = list_any (λ s. s == service) services

-- ---- what a post says of a service

abbrev pub slot_of : Event → Slot
slot_of event = record { event = event.id; start = event.start; seconds = event.seconds }

-- the slot of the event at a place, if there is one
abbrev pub slot_at : List Event → Option ℕ → Option Slot
slot_at events place = option_map slot_of (option_and_then (slice_get events) place)

-- the event that is on at a moment, and the next one that starts after it (EN 300 468, 5.2.4)
abbrev pub present : ℕ → List Event → Option Slot
present moment events = slot_at events (present_at moment (map at_of events))

abbrev pub following : ℕ → List Event → Option Slot
following moment events = slot_at events (following_at moment (map at_of events))

abbrev pub is_service : ℕ → ServiceGuide → Bool
is_service number service = service.service == number

abbrev pub now_next : Post → ServiceGuide → NowNext
now_next post service = record {
  number = post.number;
  now = present post.guide.moment.0 service.events;
  next = following post.guide.moment.0 service.events;
}

-- the number of the post, with the present and the following event of the service; none where its guide has no such service
abbrev pub says : Post → ℕ → Option NowNext
says post service = option_map (now_next post) (find (is_service service) post.guide.services)

-- ---- answers

-- the posts end with this one
abbrev pub EndsWith : List Post → Post → Type 0
EndsWith posts last = (front : List Post) × (posts ≡ front ++ last ∷ [])

-- the answer is what the post says
abbrev pub Answers : Post → ℕ → Result NowNext NoService → Type 0
Answers post service answer =
    MatchResult answer (λ said. says post service ≡ Some said) (λ missing. (missing.0 ≡ service) × (says post service ≡ None))

-- the answer is what the newest of the posts says
abbrev pub AnswersNewest : List Post → ℕ → Result NowNext NoService → Type 0
AnswersNewest posts service answer = (newest : Post) × EndsWith posts newest × Answers newest service answer
