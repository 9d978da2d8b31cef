-- The sections of a service's schedule, table by table and segment by segment (EN 300 468, 5.2.4).
use Rattle.std.specs.Prelude.{ℕ, zero, suc, ◌+◌, ◌-◌, ◌*◌, ◌/◌, ◌≤◌, Bool, List, [], ◌∷◌, length, take, drop, flat_map, if◌then◌else◌}
use Rattle.std.specs.List.{AllByRecursion, range_with_len}
use Rattle.guide_limits.specs.Events.{block_of}
use Rattle.si_lists.specs.Runs.{longest_runs}
use Rattle.eit_segments.specs.declared.event.EventAt.{EventAt}
use Rattle.eit_segments.specs.declared.piece.Piece.{Piece}
use Rattle.eit_segments.specs.Placement.{AreInOrder, in_block, has_event, block_place}

-- events in order, one run for each section: each takes the next entries as long as they fit 4,078 bytes
abbrev pub section_runs : List EventAt → List (List EventAt)
section_runs events = longest_runs (λ (event : EventAt). event.size) 4078 events

-- the runs of the events of a block
abbrev pub block_runs : ℕ → List EventAt → List (List EventAt)
block_runs block events = section_runs (in_block block events)

-- the events of each block fit the eight sections of a segment
abbrev pub FitSegments : List EventAt → Type 0
FitSegments events = (block : ℕ) → length (block_runs block events) ≤ 8

-- events that can be placed: in order, each with an entry that fits a section, and those of each block fit eight sections
pub record CanBePlaced (events : List EventAt) : Type 0 where
  pub order : AreInOrder events
  pub small : AllByRecursion (λ (event : EventAt). event.size ≤ 4078) events
  pub fit : FitSegments events

-- the highest number below n that passes a test, or 0 where none does
abbrev pub highest : (ℕ → Bool) → ℕ → ℕ
highest test zero = 0
highest test (suc n) = if test n then n else highest test n

-- of so many blocks the last with an event, counted from the first of them; 0 where none has one
abbrev pub last_used : ℕ → ℕ → List EventAt → ℕ
last_used first many events = highest (λ n. has_event (first + n) events) many

-- the sections of runs of events, one each: their table, the last number of it and that of their segment, the first of
-- their numbers, and the place of their first event
abbrev pub sections_from : ℕ → ℕ → ℕ → ℕ → ℕ → List (List EventAt) → List Piece
sections_from table last segment_last number from [] = []
sections_from table last segment_last number from (run ∷ runs) =
    record { table = table; number = number; last = last; segment_last = segment_last; from = from; to = from + length run }
    ∷ sections_from table last segment_last (1 + number) (from + length run) runs

-- the sections of a segment: its number, and its block
abbrev pub segment_sections : ℕ → ℕ → ℕ → ℕ → List EventAt → List Piece
segment_sections table last segment block events =
    let runs = block_runs block events in
    sections_from table last (8 * segment + (length runs - 1)) (8 * segment) (block_place block events) runs

-- the number of the last section of a table, by its first block: that of its last segment with events, or of its first segment
abbrev pub last_number : ℕ → List EventAt → ℕ
last_number first events =
    let segment = last_used first 32 events in
    8 * segment + (length (block_runs (first + segment) events) - 1)

-- the sections of a table, by its first block: those of its segments up to the last with events
abbrev pub table_sections : ℕ → ℕ → List EventAt → List Piece
table_sections table first events =
    flat_map (λ segment. segment_sections table (last_number first events) segment (first + segment) events)
    (range_with_len 0 (last_used first 32 events + 1))

-- the sections of the schedule of the 64 days from a midnight on: tables 0x50 to that of the last event
abbrev pub schedule_of : ℕ → List EventAt → List Piece
schedule_of day events =
    let first = block_of day in
    flat_map (λ table. table_sections (80 + table) (first + 32 * table) events) (range_with_len 0 (last_used first 512 events / 32 + 1))

-- last_table_id of that schedule: the table of its last event, or 0x50 without one
abbrev pub last_table : ℕ → List EventAt → ℕ
last_table day events = 0x50 + last_used (block_of day) 512 events / 32

-- the sections of one of its tables, by table_id
abbrev pub sections_in_table : ℕ → ℕ → List EventAt → List Piece
sections_in_table day table events = table_sections table (block_of day + 32 * (table - 0x50)) events

-- the events of a section, of those of its service
abbrev pub section_events : {X : Type 0} → Piece → List X → List X
section_events piece events = take (piece.to - piece.from) (drop piece.from events)
