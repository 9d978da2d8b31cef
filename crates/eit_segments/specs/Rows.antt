-- Worked schedules and moments. The day is 1858-11-17, from its midnight on.
use Rattle.std.specs.Prelude.{◌≡◌, ℕ, [], ◌∷◌, Some, None, refl}
use Rattle.eit_segments.specs.declared.event.EventAt.{EventAt}
use Rattle.eit_segments.specs.declared.piece.Piece.{Piece}
use Rattle.eit_segments.specs.Placement.{present_at, following_at}
use Rattle.eit_segments.specs.Schedule.{schedule_of}

abbrev event : ℕ → ℕ → EventAt
event start seconds = record { start = record { 0 = start }; seconds = seconds; size = 94 }

abbrev section : ℕ → ℕ → ℕ → ℕ → ℕ → Piece
section number last segment_last from to = record { table = 0x50; number = number; last = last; segment_last = segment_last; from = from; to = to }

-- ---- events at 02:59:59 for a second, at 03:00:00 and at 09:00:00: segment 2 has none

three_events : schedule_of 0 (event 10799 1 ∷ event 10800 1800 ∷ event 32400 1800 ∷ []) ≡ section 0 24 0 0 1 ∷ section 8 24 8 1 2 ∷ section 16 24 16 2 2 ∷ section 24 24 24 2 3 ∷ []
three_events = refl

-- an event across the end of its segment stands there alone
across : schedule_of 0 (event 10799 2 ∷ event 10801 1800 ∷ []) ≡ section 0 8 0 0 1 ∷ section 8 8 8 1 2 ∷ []
across = refl

no_event : schedule_of 0 [] ≡ section 0 0 0 0 0 ∷ []
no_event = refl

-- one of the day before that is still on, at midnight
day_before : schedule_of 86400 (event 84600 3600 ∷ []) ≡ section 0 0 0 1 1 ∷ []
day_before = refl

-- ---- an event of a minute: at its start, in its last second and at its end

before_start : following_at 99 (event 100 60 ∷ []) ≡ Some 0
before_start = refl

at_start : present_at 100 (event 100 60 ∷ []) ≡ Some 0
at_start = refl

last_second : present_at 159 (event 100 60 ∷ []) ≡ Some 0
last_second = refl

at_end : present_at 160 (event 100 60 ∷ []) ≡ None
at_end = refl

none_follows : following_at 100 (event 100 60 ∷ []) ≡ None
none_follows = refl
