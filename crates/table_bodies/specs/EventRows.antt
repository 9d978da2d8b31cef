-- Worked bodies.
use Rattle.std.specs.Prelude.{◌≡◌, [], ◌∷◌, ◌++◌, length, Some, None, refl, codes, List, ℕ}
use Rattle.std.specs.Str.{chars, is_utf8}
use Rattle.guide_model.specs.Cutting.{pieces, first_pieces}
use Rattle.guide_model.specs.declared.shown.Shown.TheVariants.{Text, Hex}
use Rattle.si_time.specs.Moments.{moment_bcd, duration_bcd}
use Rattle.si_time.specs.Readings.{moment_from_bcd, duration_from_bcd}
use Rattle.guide_model.specs.declared.event.Event.{Event}
use Rattle.guide_model.specs.declared.screen.ScreenEvent.{ScreenEvent}
use Rattle.guide_model.specs.declared.descriptor.RawDesc.{RawDesc}
use Rattle.table_bodies.specs.declared.eit.EitHead.{EitHead}
use Rattle.table_bodies.specs.ShownEvent.{short_of, genres_of, rating_of, pieces_in, joined, event_of}
use Rattle.table_bodies.specs.Eit.{eit_body, written_bytes, shown_event, eit_in}

-- ---- event 7 at 13:00:00 of day 0xC079, of half an hour, with the name News

abbrev news : Event
news = record {
  id = 7;
  start = record { 0 = 4257234000 };
  seconds = 1800;
  language = codes "eng";
  name = codes "News";
  short = [];
  extended = [];
  rating = None;
  genres = [];
  descriptors = [];
}

abbrev head : EitHead
head = record { stream = 0x0405; original = 0x233A; segment_last = 7; last_table = 0x51 }

row_entry : written_bytes 0 news
    ≡ 0x00 ∷ 0x07 ∷ 0xC0 ∷ 0x79 ∷ 0x13 ∷ 0x00 ∷ 0x00 ∷ 0x00 ∷ 0x30 ∷ 0x00 ∷ 0x00 ∷ 0x0B
    ∷ 0x4D ∷ 0x09 ∷ 0x65 ∷ 0x6E ∷ 0x67 ∷ 0x04 ∷ 0x4E ∷ 0x65 ∷ 0x77 ∷ 0x73 ∷ 0x00 ∷ []
unfolding moment_bcd duration_bcd pieces first_pieces
row_entry = refl

-- a body without an event, and one with two events that are running (running_status 4)
row_head : eit_body head 4 [] ≡ 0x04 ∷ 0x05 ∷ 0x23 ∷ 0x3A ∷ 0x07 ∷ 0x51 ∷ []
row_head = refl

row_body : eit_body head 4 (news ∷ news ∷ [])
    ≡ 0x04 ∷ 0x05 ∷ 0x23 ∷ 0x3A ∷ 0x07 ∷ 0x51
    ∷ 0x00 ∷ 0x07 ∷ 0xC0 ∷ 0x79 ∷ 0x13 ∷ 0x00 ∷ 0x00 ∷ 0x00 ∷ 0x30 ∷ 0x00 ∷ 0x80 ∷ 0x0B
    ∷ 0x4D ∷ 0x09 ∷ 0x65 ∷ 0x6E ∷ 0x67 ∷ 0x04 ∷ 0x4E ∷ 0x65 ∷ 0x77 ∷ 0x73 ∷ 0x00
    ∷ 0x00 ∷ 0x07 ∷ 0xC0 ∷ 0x79 ∷ 0x13 ∷ 0x00 ∷ 0x00 ∷ 0x00 ∷ 0x30 ∷ 0x00 ∷ 0x80 ∷ 0x0B
    ∷ 0x4D ∷ 0x09 ∷ 0x65 ∷ 0x6E ∷ 0x67 ∷ 0x04 ∷ 0x4E ∷ 0x65 ∷ 0x77 ∷ 0x73 ∷ 0x00 ∷ []
unfolding moment_bcd duration_bcd pieces first_pieces
row_body = refl

-- the same entry is read, and one with other flags and without a descriptor
abbrev news_desc : RawDesc
news_desc = record { tag = 0x4D; body = 0x65 ∷ 0x6E ∷ 0x67 ∷ 0x04 ∷ 0x4E ∷ 0x65 ∷ 0x77 ∷ 0x73 ∷ 0x00 ∷ [] }

abbrev bare : ScreenEvent
bare = record {
  id = 7;
  start = record { 0 = 4257234000 };
  seconds = 1800;
  language = codes "und";
  name = Text [];
  short = Text [];
  extended = Text [];
  rating = None;
  genres = [];
  descriptors = [];
}

news_shown : event_of 7 4257234000 1800 (news_desc ∷ []) ≡ shown_event news
unfolding chars
news_shown = refl

row_read : eit_in
    (0x04 ∷ 0x05 ∷ 0x23 ∷ 0x3A ∷ 0x07 ∷ 0x51
    ∷ 0x00 ∷ 0x07 ∷ 0xC0 ∷ 0x79 ∷ 0x13 ∷ 0x00 ∷ 0x00 ∷ 0x00 ∷ 0x30 ∷ 0x00 ∷ 0x00 ∷ 0x0B
    ∷ 0x4D ∷ 0x09 ∷ 0x65 ∷ 0x6E ∷ 0x67 ∷ 0x04 ∷ 0x4E ∷ 0x65 ∷ 0x77 ∷ 0x73 ∷ 0x00
    ∷ 0x00 ∷ 0x07 ∷ 0xC0 ∷ 0x79 ∷ 0x13 ∷ 0x00 ∷ 0x00 ∷ 0x00 ∷ 0x30 ∷ 0x00 ∷ 0xF0 ∷ 0x00 ∷ [])
    ≡ Some (record { head = head; events = shown_event news ∷ bare ∷ [] })
unfolding moment_from_bcd duration_from_bcd chars
row_read = refl

-- no time, and no duration
no_hour : moment_from_bcd (0xC0 ∷ 0x79 ∷ 0x24 ∷ 0x00 ∷ 0x00 ∷ []) ≡ None
unfolding moment_from_bcd
no_hour = refl

no_minute : duration_from_bcd (0x00 ∷ 0x60 ∷ 0x00 ∷ []) ≡ None
unfolding duration_from_bcd
no_minute = refl

-- ---- what descriptors show

abbrev short_desc : List ℕ → List ℕ → RawDesc
short_desc language name = record { tag = 0x4D; body = language ++ (length name ∷ name) ++ 0 ∷ [] }

abbrev piece_desc : List ℕ → List ℕ → RawDesc
piece_desc language text = record { tag = 0x4E; body = 0 ∷ (language ++ 0 ∷ length text ∷ text) }

-- the first short_event; one with a byte left over is passed over, and so is one of an unknown tag
first_short : (short_of (short_desc (codes "fra") (codes "A") ∷ short_desc (codes "deu") (codes "B") ∷ [])).name ≡ Text (codes "A")
unfolding chars
first_short = refl

passed_over : (short_of (record { tag = 0x4D; body = codes "fra" ++ 0 ∷ 0 ∷ 0 ∷ [] } ∷ record { tag = 0x7F; body = [] } ∷ short_desc (codes "deu") (codes "B") ∷ [])).language ≡ codes "deu"
passed_over = refl

-- pieces in the order in which they stand, without those of another language
abbrev around : List RawDesc
around = piece_desc (codes "eng") (codes "b") ∷ piece_desc (codes "fra") (codes "x") ∷ piece_desc (codes "eng") (codes "a") ∷ []

pieces_around : pieces_in (codes "eng") around ≡ codes "b" ∷ codes "a" ∷ []
pieces_around = refl

joined_text : joined (codes "b" ∷ (0x15 ∷ 0xC3 ∷ 0xA9 ∷ []) ∷ []) ≡ Text (0x62 ∷ 0xC3 ∷ 0xA9 ∷ [])
unfolding chars is_utf8 lib.Utf8.encode
joined_text = refl

-- one piece that does not decode makes all of them bytes, with the 0x15 of the others
joined_bytes : joined ((0x15 ∷ 0xC3 ∷ 0xA9 ∷ []) ∷ (0x15 ∷ 0xFF ∷ []) ∷ codes "c" ∷ []) ≡ Hex (0x15 ∷ 0xC3 ∷ 0xA9 ∷ 0x15 ∷ 0xFF ∷ 0x63 ∷ [])
unfolding chars is_utf8 lib.Utf8.encode
joined_bytes = refl

-- the genres of the first content, though it has none; the first rating of the first parental_rating
first_content : genres_of (record { tag = 0x54; body = [] } ∷ record { tag = 0x54; body = 0x20 ∷ 0x00 ∷ [] } ∷ []) ≡ []
first_content = refl

first_of_two : rating_of (record { tag = 0x55; body = codes "GBR" ++ 5 ∷ codes "FRA" ++ 6 ∷ [] } ∷ []) ≡ Some (record { country = codes "GBR"; value = 5 })
first_of_two = refl

-- ---- an event with further descriptors: a rating of one country is the event's, one of two countries stays, and so do others

abbrev rated : List ℕ → RawDesc
rated body = record { tag = 0x55; body = body }

abbrev crid : RawDesc
crid = record { tag = 0x76; body = 0xC4 ∷ 0x03 ∷ 0x2F ∷ 0x45 ∷ 0x37 ∷ [] }

one_country : shown_event (record news { descriptors = crid ∷ rated (codes "DEU" ++ 9 ∷ []) ∷ [] })
    ≡ record (shown_event news) { rating = Some (record { country = codes "DEU"; value = 9 }); descriptors = crid ∷ [] }
one_country = refl

two_countries : shown_event (record news { descriptors = rated (codes "DEU" ++ 9 ∷ codes "AUT" ++ 9 ∷ []) ∷ crid ∷ [] })
    ≡ record (shown_event news) { rating = Some (record { country = codes "DEU"; value = 9 }); descriptors = rated (codes "DEU" ++ 9 ∷ codes "AUT" ++ 9 ∷ []) ∷ crid ∷ [] }
two_countries = refl
