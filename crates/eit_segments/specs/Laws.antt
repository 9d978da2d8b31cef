-- What the sections of a schedule are, for the layers above.
use Rattle.std.specs.Prelude.{◌≡◌, ℕ, ◌+◌, ◌-◌, ◌%◌, ◌≤◌, Bool, ◌&&◌, ◌==◌, nat_le, nat_lt, List, Option, Some, option_map, find, map, take, drop, filter, flat_map}
use Rattle.std.specs.List.{AllByRecursion}
use Rattle.section_codec.specs.Segments.{segment_of, table_needs}
use Rattle.guide_model.specs.declared.event.Event.{Event}
use Rattle.descriptors.specs.EventDescriptors.{entry_size}
use Rattle.guide_limits.specs.Limits.{AreWithin}
use Rattle.eit_segments.specs.declared.event.EventAt.{EventAt}
use Rattle.eit_segments.specs.declared.piece.Piece.{Piece}
use Rattle.eit_segments.specs.Schedule.{FitSegments, CanBePlaced, block_runs, last_number, segment_sections, table_sections, schedule_of}

-- ---- what a receiver needs of a table

abbrev pub is_of_segment : ℕ → Piece → Bool
is_of_segment segment piece = segment_of piece.number == segment

-- the last number of a segment, as the first section of it tells, if there is one
abbrev pub told_last : List Piece → ℕ → Option ℕ
told_last pieces segment = option_map (λ (piece : Piece). piece.segment_last) (find (is_of_segment segment) pieces)

-- The sections of a table: their numbers are just those that a receiver needs. All tell the same last number, and those of
-- a segment the same last number of it.
pub record IsWholeTable (last_of : ℕ) (pieces : List Piece) : Type 0 where
  pub numbers : table_needs (told_last pieces) last_of ≡ Some (map (λ (piece : Piece). piece.number) pieces)
  pub last : AllByRecursion (λ (piece : Piece). piece.last ≡ last_of) pieces
  pub segment_last : AllByRecursion (λ (piece : Piece). told_last pieces (segment_of piece.number) ≡ Some piece.segment_last) pieces

abbrev pub TablesAreWhole : Type 0
TablesAreWhole = (table first : ℕ) (events : List EventAt) → FitSegments events → IsWholeTable (last_number first events) (table_sections table first events)

-- ---- the events of sections

abbrev pub events_of : List EventAt → Piece → List EventAt
events_of events piece = take (piece.to - piece.from) (drop piece.from events)

-- The sections of a segment have the runs of its block: the events whose own start lies there, and no others.
abbrev pub SegmentsHaveRuns : Type 0
SegmentsHaveRuns =
    (table last segment block : ℕ) (events : List EventAt) → CanBePlaced events
    → map (events_of events) (segment_sections table last segment block events) ≡ block_runs block events

-- the events that start in the 64 days from a midnight on
abbrev pub scheduled : ℕ → List EventAt → List EventAt
scheduled day events = filter (λ (event : EventAt). nat_le day event.start.0 && nat_lt event.start.0 (day + 5529600)) events

-- The sections of a schedule have the events of its 64 days, each once and in order.
abbrev pub SchedulesHaveEvents : Type 0
SchedulesHaveEvents =
    (day : ℕ) (events : List EventAt) → day % 86400 ≡ 0 → CanBePlaced events → flat_map (events_of events) (schedule_of day events) ≡ scheduled day events

-- ---- the events of a service

abbrev pub at_of : Event → EventAt
at_of event = record { start = event.start; seconds = event.seconds; size = entry_size event }

-- Events of a service that are within their limits, each with an entry of at most 1,578 bytes, can be placed.
abbrev pub EventsCanBePlaced : Type 0
EventsCanBePlaced = (events : List Event) → AreWithin events → AllByRecursion (λ (event : Event). entry_size event ≤ 1578) events → CanBePlaced (map at_of events)
