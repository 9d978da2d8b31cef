-- The body of an event information section, both ways (EN 300 468, 5.2.4).
use Rattle.std.specs.Prelude.{◌≡◌, ℕ, ◌*◌, ◌<◌, Bool, nat_le, if◌then◌else◌, List, [], ◌∷◌, ◌++◌, length, drop, map, slice_index}
use Rattle.std.specs.Prelude.{Option, Some, None, IfSome, is_some, option_map}
use Rattle.std.specs.List.{flat_map, All}
use Rattle.std.specs.Option.{option_or}
use Rattle.si_base.specs.Fields.{two, two_at}
use Rattle.si_time.specs.Moments.{moment_bcd, duration_bcd}
use Rattle.si_time.specs.Readings.{moment_from_bcd, duration_from_bcd}
use Rattle.guide_model.specs.declared.shown.Shown.TheVariants.{Text}
use Rattle.guide_model.specs.Decoding.{IsKept}
use Rattle.guide_model.specs.declared.event.Event.{Event}
use Rattle.guide_model.specs.declared.screen.ScreenEvent.{ScreenEvent}
use Rattle.descriptors.specs.EventDescriptors.{event_descriptors, entry_size, IsWithinLimits}
use Rattle.descriptors.specs.First.{without_first}
use Rattle.descriptors.specs.ParentalRating.{HasThreeLetters, is_one_rating, parental_rating_in}
use Rattle.table_bodies.specs.declared.eit.EitHead.{EitHead}
use Rattle.table_bodies.specs.declared.eit.Eit.{Eit}
use Rattle.table_bodies.specs.Entries.{TableEntry, entry_bytes, Reads, made, entries_in}
use Rattle.table_bodies.specs.ShownEvent.{event_of, rating_of}

-- ---- written

-- transport_stream_id 16, original_network_id 16, segment_last_section_number 8, last_table_id 8
abbrev pub head_bytes : EitHead → List ℕ
head_bytes h = two h.stream ++ two h.original ++ h.segment_last ∷ h.last_table ∷ []

-- the entry of an event with this running_status: event_id 16, start_time 40, duration 24; running_status 3, and free_CA_mode 1, which is 0
abbrev pub written_entry : ℕ → Event → TableEntry
written_entry status e = record {
  fields = two e.id ++ moment_bcd e.start.0 ++ duration_bcd e.seconds;
  bits = 2 * status;
  descriptors = event_descriptors e;
}

abbrev pub written_bytes : ℕ → Event → List ℕ
written_bytes status e = entry_bytes (written_entry status e)

abbrev pub eit_body : EitHead → ℕ → List Event → List ℕ
eit_body head status events = head_bytes head ++ flat_map (written_bytes status) events

-- an event whose entry can be written
pub record IsCodable (e : Event) : Type 0 where
  pub start : e.start.0 < 65536 * 86400
  pub seconds : e.seconds < 360000
  pub limits : IsWithinLimits e

-- ---- read

-- start_time and duration of the fields of an entry
abbrev pub time_of : List ℕ → List ℕ
time_of fields = slice_index fields 2 ∷ slice_index fields 3 ∷ slice_index fields 4 ∷ slice_index fields 5 ∷ slice_index fields 6 ∷ []

abbrev pub duration_of : List ℕ → List ℕ
duration_of fields = slice_index fields 7 ∷ slice_index fields 8 ∷ slice_index fields 9 ∷ []

-- the event that an entry shows, whatever running_status and free_CA_mode; none where its start or its duration is no time
abbrev pub event_in : Reads ScreenEvent
event_in fields descs =
    made (λ start seconds. event_of (two_at 0 fields) start seconds descs) (moment_from_bcd (time_of fields)) (duration_from_bcd (duration_of fields))

abbrev pub head_of : List ℕ → EitHead
head_of body = record { stream = two_at 0 body; original = two_at 2 body; segment_last = slice_index body 4; last_table = slice_index body 5 }

abbrev pub eit_with : EitHead → List ScreenEvent → Eit
eit_with head events = record { head = head; events = events }

-- a head, and entries of events; none where the body is no such entries
abbrev pub eit_in : List ℕ → Option Eit
eit_in body = if nat_le 6 (length body) then option_map (eit_with (head_of body)) (entries_in 10 event_in (drop 6 body)) else None

-- whether bytes are such a body
abbrev pub is_eit_body : List ℕ → Bool
is_eit_body body = is_some (eit_in body)

-- ---- laws

-- An entry has the size that is known before it is written.
abbrev pub EntryHasItsSize : Type 0
EntryHasItsSize = (status : ℕ) (event : Event) → length (written_bytes status event) ≡ entry_size event

-- what a receiver shows of an event: all its texts as text, and its further descriptors; a rating among them is that of the event,
-- and stands no longer among them where it is of one country
abbrev pub shown_event : Event → ScreenEvent
shown_event e = record {
  id = e.id;
  start = e.start;
  seconds = e.seconds;
  language = e.language;
  name = Text e.name;
  short = Text e.short;
  extended = Text e.extended;
  rating = option_or e.rating (rating_of e.descriptors);
  genres = e.genres;
  descriptors = without_first 0x55 parental_rating_in is_one_rating e.descriptors;
}

-- what each value of the type Event has: an id of 16 bits, codes of three letters, and texts that may be kept
pub record IsTyped (e : Event) : Type 0 where
  pub id : e.id < 65536
  pub language : length e.language ≡ 3
  pub name : IsKept e.name
  pub short : IsKept e.short
  pub extended : IsKept e.extended
  pub rating : IfSome e.rating HasThreeLetters

-- the two fields of a head that are wider than a byte have their width
pub record FitsHead (h : EitHead) : Type 0 where
  pub stream : h.stream < 65536
  pub original : h.original < 65536

-- Reading a written body gives back its head and its events.
abbrev pub EitReadsBack : Type 0
EitReadsBack = (head : EitHead) (status : ℕ) (events : List Event)
    → FitsHead head → status < 8 → All IsCodable events → All IsTyped events
    → eit_in (eit_body head status events) ≡ Some (record { head = head; events = map shown_event events })
