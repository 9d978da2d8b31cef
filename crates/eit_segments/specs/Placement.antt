-- Where an event stands by its own start, and which events are present and following (EN 300 468, 5.2.4).
use Rattle.std.specs.Prelude.{ℕ, ◌+◌, ◌≤◌, Bool, ◌&&◌, ◌==◌, nat_le, nat_lt, List, [], ◌∷◌, Option, filter, position}
use Rattle.std.specs.List.{AllByRecursion, list_any, position_or_len}
use Rattle.guide_limits.specs.Events.{block_of}
use Rattle.eit_segments.specs.declared.event.EventAt.{EventAt}

-- the three-hour block in which an event starts, counted from Modified Julian Date 0
abbrev pub start_block : EventAt → ℕ
start_block event = block_of event.start.0

-- an event lasts up to and without its end
abbrev pub end_at : EventAt → ℕ
end_at event = event.start.0 + event.seconds

-- events in order: each ends before the later ones start, or just then
abbrev pub AreInOrder : List EventAt → Type 0
AreInOrder [] = Unit {0}
AreInOrder (event ∷ events) = AllByRecursion (λ (later : EventAt). end_at event ≤ later.start.0) events × AreInOrder events

-- the events whose own start lies in a block, in order
abbrev pub in_block : ℕ → List EventAt → List EventAt
in_block block events = filter (λ (event : EventAt). start_block event == block) events

-- does an event start in the block?
abbrev pub has_event : ℕ → List EventAt → Bool
has_event block events = list_any (λ (event : EventAt). start_block event == block) events

-- of events in order, the place of the first that starts in a block or later, or their number
abbrev pub block_place : ℕ → List EventAt → ℕ
block_place block events = position_or_len (λ (event : EventAt). nat_le block (start_block event)) events

-- the place of the event that starts at a moment or before and ends after it
abbrev pub present_at : ℕ → List EventAt → Option ℕ
present_at moment events = position (λ (event : EventAt). nat_le event.start.0 moment && nat_lt moment (end_at event)) events

-- of events in order, the place of the first that starts after a moment, or their number
abbrev pub next_place : ℕ → List EventAt → ℕ
next_place moment events = position_or_len (λ (event : EventAt). nat_lt moment event.start.0) events

-- of events in order, the place of the first that starts after a moment
abbrev pub following_at : ℕ → List EventAt → Option ℕ
following_at moment events = position (λ (event : EventAt). nat_lt moment event.start.0) events
