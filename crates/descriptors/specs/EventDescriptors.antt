-- The descriptors of an event, and the size of its entry in a section (EN 300 468, 5.2.4).
use Rattle.std.specs.Prelude.{ℕ, suc, ◌+◌, ◌-◌, ◌≤◌, Bool, true, false, List, [], ◌∷◌, ◌++◌, length, Option, Some, None, is_some}
use Rattle.std.specs.List.{All}
use Rattle.guide_model.specs.Coding.{coded_text, coded_size}
use Rattle.guide_model.specs.Cutting.{pieces}
use Rattle.guide_model.specs.Descriptors.{AreSoundDescriptors, descriptors_size}
use Rattle.guide_model.specs.declared.shown.Shown.TheVariants.{Text}
use Rattle.guide_model.specs.declared.event.Event.{Event}
use Rattle.guide_model.specs.declared.event.Genre.{Genre}
use Rattle.guide_model.specs.declared.event.Rating.{Rating}
use Rattle.descriptors.specs.Descriptors.{descriptors_bytes}
use Rattle.descriptors.specs.ShortEvent.{short_event}
use Rattle.descriptors.specs.ExtendedEvent.{extended_event}
use Rattle.descriptors.specs.Content.{content, HasNibbles}
use Rattle.descriptors.specs.ParentalRating.{parental_rating}

-- extended_event of each piece, numbered from n on
abbrev pub numbered : ℕ → ℕ → List ℕ → List (List ℕ) → List ℕ
numbered n last language [] = []
numbered n last language (piece ∷ more) =
    extended_event (record { number = n; last = last; language = language; text = coded_text piece }) ++ numbered (suc n) last language more

-- the extended text in pieces, numbered from 0, with the number of the last
abbrev pub extended_events : List ℕ → List ℕ → List ℕ
extended_events language text = numbered 0 (length (pieces text) - 1) language (pieces text)

-- content where there is a genre
abbrev pub content_of : List Genre → List ℕ
content_of [] = []
content_of (g ∷ genres) = content (g ∷ genres)

-- parental_rating where there is a rating
abbrev pub rating_of : Option Rating → List ℕ
rating_of None = []
rating_of (Some r) = parental_rating (r ∷ [])

-- the descriptors that are made of the other fields of an event, in the order in which they are written
abbrev pub made_descriptors : Event → List ℕ
made_descriptors e =
    short_event (record { language = e.language; name = Text e.name; short = Text e.short })
    ++ extended_events e.language e.extended
    ++ content_of e.genres
    ++ rating_of e.rating

-- the tags of those that are made in each event, and of parental_rating where it has a rating
abbrev pub made_of_event : Bool → List ℕ
made_of_event false = 0x4D ∷ 0x4E ∷ 0x54 ∷ []
made_of_event true = 0x4D ∷ 0x4E ∷ 0x54 ∷ 0x55 ∷ []

-- the descriptors of an event: those that are made, and then its further ones
abbrev pub event_descriptors : Event → List ℕ
event_descriptors e = made_descriptors e ++ descriptors_bytes e.descriptors

-- the bytes of an event's entry: event_id 16, start_time 40, duration 24, running_status 3, free_CA_mode 1,
-- descriptors_loop_length 12, and the descriptors
abbrev pub entry_size : Event → ℕ
entry_size e = 12 + length (event_descriptors e)

-- The limits within which an event is coded.
pub record IsWithinLimits (e : Event) : Type 0 where
  pub name : coded_size e.name ≤ 100
  pub short : coded_size e.short ≤ 150
  pub extended : length e.extended ≤ 1000
  pub genres : length e.genres ≤ 8
  pub levels : All HasNibbles e.genres
  pub descriptors : AreSoundDescriptors (made_of_event (is_some e.rating)) e.descriptors
  pub room : descriptors_size e.descriptors ≤ 240
