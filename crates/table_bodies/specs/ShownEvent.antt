-- What the descriptors of an event show.
use Rattle.std.specs.Prelude.{ℕ, ◌==◌, ◌&&◌, Bool, false, not, List, [], ◌∷◌, ◌++◌, filter, slice_index, Option, Some, None, if◌then◌else◌, codes, bytes_eq}
use Rattle.std.specs.List.{concat}
use Rattle.guide_model.specs.Decoding.{decoded}
use Rattle.guide_model.specs.declared.shown.Shown.{Shown}
use Rattle.guide_model.specs.declared.shown.Shown.TheVariants.{Text, Hex}
use Rattle.guide_model.specs.declared.event.Genre.{Genre}
use Rattle.guide_model.specs.declared.event.Rating.{Rating}
use Rattle.guide_model.specs.declared.screen.ScreenEvent.{ScreenEvent}
use Rattle.guide_model.specs.declared.descriptor.RawDesc.{RawDesc}
use Rattle.descriptors.specs.First.{first_in, without_first, always}
use Rattle.descriptors.specs.declared.short_event.ShortEvent.{ShortEvent}
use Rattle.descriptors.specs.declared.extended_event.ExtendedPiece.{ExtendedPiece}
use Rattle.descriptors.specs.ShortEvent.{short_event_in}
use Rattle.descriptors.specs.ExtendedEvent.{extended_event_in}
use Rattle.descriptors.specs.Content.{content_in}
use Rattle.descriptors.specs.ParentalRating.{parental_rating_in, is_one_rating}

-- ---- fields of the first descriptors

-- the first short_event; without one the language is und and both texts are empty
abbrev pub short_or_none : Option ShortEvent → ShortEvent
short_or_none (Some e) = e
short_or_none None = record { language = codes "und"; name = Text []; short = Text [] }

abbrev pub short_of : List RawDesc → ShortEvent
short_of ds = short_or_none (first_in 0x4D short_event_in ds)

-- the genres of the first content
abbrev pub genres_or_none : Option (List Genre) → List Genre
genres_or_none (Some genres) = genres
genres_or_none None = []

abbrev pub genres_of : List RawDesc → List Genre
genres_of ds = genres_or_none (first_in 0x54 content_in ds)

-- the first rating of the first parental_rating
abbrev pub first_rating : Option (List Rating) → Option Rating
first_rating (Some (r ∷ ratings)) = Some r
first_rating (Some []) = None
first_rating None = None

abbrev pub rating_of : List RawDesc → Option Rating
rating_of ds = first_rating (first_in 0x55 parental_rating_in ds)

-- ---- the extended text

-- the coded text of a piece in this language
abbrev pub text_if : List ℕ → Option ExtendedPiece → List (List ℕ)
text_if language None = []
text_if language (Some p) = if bytes_eq p.language language then p.text ∷ [] else []

-- the coded texts of the pieces of a language, in the order in which they stand
abbrev pub pieces_in : List ℕ → List RawDesc → List (List ℕ)
pieces_in language [] = []
pieces_in language (d ∷ ds) = text_if language (if d.tag == 0x4E then extended_event_in d.body else None) ++ pieces_in language ds

-- the texts of pieces, where each is shown as text
abbrev pub with_text : Shown → Option (List (List ℕ)) → Option (List (List ℕ))
with_text (Text text) (Some texts) = Some (text ∷ texts)
with_text (Text text) None = None
with_text (Hex bytes) texts = None

abbrev pub texts_of : List (List ℕ) → Option (List (List ℕ))
texts_of [] = Some []
texts_of (piece ∷ more) = with_text (decoded piece) (texts_of more)

-- the texts one after the other, or else all coded bytes
abbrev pub joined_as : Option (List (List ℕ)) → List (List ℕ) → Shown
joined_as (Some texts) pieces = Text (concat texts)
joined_as None pieces = Hex (concat pieces)

abbrev pub joined : List (List ℕ) → Shown
joined pieces = joined_as (texts_of pieces) pieces

-- ---- the further descriptors

-- a piece in this language, which has no items: length_of_items, at byte 4, is 0
abbrev pub is_in_language : List ℕ → Option ExtendedPiece → Bool
is_in_language language None = false
is_in_language language (Some p) = bytes_eq p.language language

abbrev pub is_plain_piece : List ℕ → RawDesc → Bool
is_plain_piece language d = d.tag == 0x4E && (slice_index d.body 4 == 0 && is_in_language language (extended_event_in d.body))

-- the descriptors without those pieces, where their text is shown as text
abbrev pub without_pieces : List ℕ → Shown → List RawDesc → List RawDesc
without_pieces language (Text text) ds = filter (λ d. not (is_plain_piece language d)) ds
without_pieces language (Hex bytes) ds = ds

-- the descriptors without the first short_event, parental_rating and content
abbrev pub without_firsts : List RawDesc → List RawDesc
without_firsts ds =
    without_first 0x54 content_in always (without_first 0x55 parental_rating_in is_one_rating (without_first 0x4D short_event_in always ds))

abbrev pub extended_of : List RawDesc → Shown
extended_of ds = joined (pieces_in (short_of ds).language ds)

abbrev pub further_of_event : List RawDesc → List RawDesc
further_of_event ds = without_pieces (short_of ds).language (extended_of ds) (without_firsts ds)

-- ---- the event

abbrev pub event_of : ℕ → ℕ → ℕ → List RawDesc → ScreenEvent
event_of id start seconds ds = record {
  id = id;
  start = record { 0 = start };
  seconds = seconds;
  language = (short_of ds).language;
  name = (short_of ds).name;
  short = (short_of ds).short;
  extended = extended_of ds;
  rating = rating_of ds;
  genres = genres_of ds;
  descriptors = further_of_event ds;
}
