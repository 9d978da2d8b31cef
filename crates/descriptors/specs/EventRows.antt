-- Worked descriptors.
use Rattle.std.specs.Prelude.{◌≡◌, [], ◌∷◌, Some, None, refl, codes}
use Rattle.std.specs.Str.{chars}
use Rattle.guide_model.specs.Cutting.{pieces, first_pieces, cut_size, greatest_cut}
use Rattle.guide_model.specs.declared.shown.Shown.TheVariants.{Text}
use Rattle.guide_model.specs.declared.event.Event.{Event}
use Rattle.descriptors.specs.declared.short_event.ShortEvent.{ShortEvent}
use Rattle.descriptors.specs.declared.extended_event.ExtendedPiece.{ExtendedPiece}
use Rattle.descriptors.specs.ShortEvent.{short_event, short_event_in}
use Rattle.descriptors.specs.ExtendedEvent.{extended_event, extended_event_in}
use Rattle.descriptors.specs.Content.{content, content_in}
use Rattle.descriptors.specs.ParentalRating.{parental_rating, parental_rating_in}
use Rattle.descriptors.specs.EventDescriptors.{numbered, event_descriptors, entry_size}

-- ---- content 2.0.0, and a rating of 5 in GBR

row_content : content (record { level1 = 2; level2 = 0; user = 0 } ∷ []) ≡ 0x54 ∷ 0x02 ∷ 0x20 ∷ 0x00 ∷ []
row_content = refl

content_read : content_in (0x20 ∷ 0x00 ∷ 0x3F ∷ 0xFE ∷ []) ≡ Some (record { level1 = 2; level2 = 0; user = 0 } ∷ record { level1 = 3; level2 = 15; user = 0xFE } ∷ [])
content_read = refl

-- a body without an entry is read, one that ends within an entry is not
no_content_read : content_in [] ≡ Some []
no_content_read = refl

content_cut : content_in (0x20 ∷ 0x00 ∷ 0x30 ∷ []) ≡ None
content_cut = refl

row_rating : parental_rating (record { country = codes "GBR"; value = 5 } ∷ []) ≡ 0x55 ∷ 0x04 ∷ 0x47 ∷ 0x42 ∷ 0x52 ∷ 0x05 ∷ []
row_rating = refl

rating_read : parental_rating_in (0x47 ∷ 0x42 ∷ 0x52 ∷ 0x05 ∷ []) ≡ Some (record { country = codes "GBR"; value = 5 } ∷ [])
rating_read = refl

rating_cut : parental_rating_in (0x47 ∷ 0x42 ∷ 0x52 ∷ []) ≡ None
rating_cut = refl

-- ---- the name News in English

abbrev news : ShortEvent
news = record { language = codes "eng"; name = Text (codes "News"); short = Text [] }

row_short : short_event news ≡ 0x4D ∷ 0x09 ∷ 0x65 ∷ 0x6E ∷ 0x67 ∷ 0x04 ∷ 0x4E ∷ 0x65 ∷ 0x77 ∷ 0x73 ∷ 0x00 ∷ []
row_short = refl

short_read : short_event_in (0x65 ∷ 0x6E ∷ 0x67 ∷ 0x04 ∷ 0x4E ∷ 0x65 ∷ 0x77 ∷ 0x73 ∷ 0x00 ∷ []) ≡ Some news
unfolding chars
short_read = refl

-- without its text_length, with a name that runs past the end, and with a byte left over
short_cut : short_event_in (0x65 ∷ 0x6E ∷ 0x67 ∷ 0x04 ∷ 0x4E ∷ 0x65 ∷ 0x77 ∷ 0x73 ∷ []) ≡ None
short_cut = refl

short_past : short_event_in (0x65 ∷ 0x6E ∷ 0x67 ∷ 0x09 ∷ 0x4E ∷ 0x65 ∷ 0x77 ∷ 0x73 ∷ 0x00 ∷ []) ≡ None
short_past = refl

short_longer : short_event_in (0x65 ∷ 0x6E ∷ 0x67 ∷ 0x04 ∷ 0x4E ∷ 0x65 ∷ 0x77 ∷ 0x73 ∷ 0x00 ∷ 0x00 ∷ []) ≡ None
short_longer = refl

-- ---- a piece of an extended text

abbrev piece : ExtendedPiece
piece = record { number = 1; last = 4; language = codes "eng"; text = codes "ab" }

row_extended : extended_event piece ≡ 0x4E ∷ 0x08 ∷ 0x14 ∷ 0x65 ∷ 0x6E ∷ 0x67 ∷ 0x00 ∷ 0x02 ∷ 0x61 ∷ 0x62 ∷ []
row_extended = refl

extended_read : extended_event_in (0x14 ∷ 0x65 ∷ 0x6E ∷ 0x67 ∷ 0x00 ∷ 0x02 ∷ 0x61 ∷ 0x62 ∷ []) ≡ Some piece
extended_read = refl

-- items are passed over
items_read : extended_event_in (0x14 ∷ 0x65 ∷ 0x6E ∷ 0x67 ∷ 0x03 ∷ 0x01 ∷ 0x78 ∷ 0x00 ∷ 0x02 ∷ 0x61 ∷ 0x62 ∷ []) ≡ Some piece
items_read = refl

-- items that run past the end, and a byte left over
items_past : extended_event_in (0x14 ∷ 0x65 ∷ 0x6E ∷ 0x67 ∷ 0x04 ∷ 0x02 ∷ 0x61 ∷ 0x62 ∷ []) ≡ None
items_past = refl

extended_longer : extended_event_in (0x14 ∷ 0x65 ∷ 0x6E ∷ 0x67 ∷ 0x00 ∷ 0x02 ∷ 0x61 ∷ 0x62 ∷ 0x63 ∷ []) ≡ None
extended_longer = refl

-- two pieces: numbers 0 and 1, and 1 as the number of the last
row_numbered : numbered 0 1 (codes "eng") (codes "ab" ∷ codes "c" ∷ [])
    ≡ 0x4E ∷ 0x08 ∷ 0x01 ∷ 0x65 ∷ 0x6E ∷ 0x67 ∷ 0x00 ∷ 0x02 ∷ 0x61 ∷ 0x62 ∷ 0x4E ∷ 0x07 ∷ 0x11 ∷ 0x65 ∷ 0x6E ∷ 0x67 ∷ 0x00 ∷ 0x01 ∷ 0x63 ∷ []
row_numbered = refl

-- ---- an event with all four, and its size

abbrev film : Event
film = record {
  id = 7;
  start = record { 0 = 4257234000 };
  seconds = 1800;
  language = codes "eng";
  name = codes "News";
  short = [];
  extended = codes "ab";
  rating = Some (record { country = codes "GBR"; value = 5 });
  genres = record { level1 = 2; level2 = 0; user = 0 } ∷ [];
  descriptors = [];
}

row_event : event_descriptors film
    ≡ 0x4D ∷ 0x09 ∷ 0x65 ∷ 0x6E ∷ 0x67 ∷ 0x04 ∷ 0x4E ∷ 0x65 ∷ 0x77 ∷ 0x73 ∷ 0x00
    ∷ 0x4E ∷ 0x08 ∷ 0x00 ∷ 0x65 ∷ 0x6E ∷ 0x67 ∷ 0x00 ∷ 0x02 ∷ 0x61 ∷ 0x62
    ∷ 0x54 ∷ 0x02 ∷ 0x20 ∷ 0x00
    ∷ 0x55 ∷ 0x04 ∷ 0x47 ∷ 0x42 ∷ 0x52 ∷ 0x05 ∷ []
unfolding pieces first_pieces cut_size greatest_cut
row_event = refl

row_size : entry_size film ≡ 43
unfolding pieces first_pieces cut_size greatest_cut
row_size = refl

-- one with a name alone: its entry has 23 bytes
row_bare_size : entry_size (record { id = 7; start = record { 0 = 4257234000 }; seconds = 1800; language = codes "eng"; name = codes "News"; short = []; extended = []; rating = None; genres = []; descriptors = [] }) ≡ 23
unfolding pieces first_pieces
row_bare_size = refl

-- ---- News with a component_descriptor and a content_identifier_descriptor: its entry has 43 bytes, of which 20 are theirs

abbrev described : Event
described = record {
  id = 7;
  start = record { 0 = 4257234000 };
  seconds = 1800;
  language = codes "eng";
  name = codes "News";
  short = [];
  extended = [];
  rating = None;
  genres = [];
  descriptors = record { tag = 0x50; body = 0xF5 ∷ 0x0B ∷ 0x01 ∷ 0x64 ∷ 0x65 ∷ 0x75 ∷ [] }
      ∷ record { tag = 0x76; body = 0xC4 ∷ 0x03 ∷ 0x2F ∷ 0x45 ∷ 0x37 ∷ 0xC8 ∷ 0x03 ∷ 0x2F ∷ 0x53 ∷ 0x32 ∷ [] }
      ∷ [];
}

row_described : event_descriptors described
    ≡ 0x4D ∷ 0x09 ∷ 0x65 ∷ 0x6E ∷ 0x67 ∷ 0x04 ∷ 0x4E ∷ 0x65 ∷ 0x77 ∷ 0x73 ∷ 0x00
    ∷ 0x50 ∷ 0x06 ∷ 0xF5 ∷ 0x0B ∷ 0x01 ∷ 0x64 ∷ 0x65 ∷ 0x75
    ∷ 0x76 ∷ 0x0A ∷ 0xC4 ∷ 0x03 ∷ 0x2F ∷ 0x45 ∷ 0x37 ∷ 0xC8 ∷ 0x03 ∷ 0x2F ∷ 0x53 ∷ 0x32 ∷ []
unfolding pieces first_pieces
row_described = refl

row_described_size : entry_size described ≡ 43
unfolding pieces first_pieces
row_described_size = refl
