-- The tally of cycles at a bit rate or without one. Without one there is nothing to keep.
use Rattle.std.specs.Prelude.{◌≡◌, ◌↔◌, ℕ, List, [], ◌∷◌, ◌++◌, Option, Some, None}
use Rattle.version_book.specs.Airings.{AiredTables}
use Rattle.cycle_timing.specs.Again.{IsRight, leads_in}
use Rattle.cycle_player.specs.Tally.{Tallied, least_rate, no_cycles, with_cycle, with_cycles}

-- one more, that of this airing after others
abbrev pub tallied_at : Option ℕ → List AiredTables → AiredTables → Tallied → Tallied
tallied_at None past a t = t
tallied_at (Some rate) past a t = with_cycle rate (leads_in rate past a) t

-- those of these airings
abbrev pub tally_of : Option ℕ → List AiredTables → Tallied
tally_of None airings = no_cycles
tally_of (Some rate) airings = with_cycles rate [] airings no_cycles

-- ---- laws

-- of each of these airings, with those before it
abbrev pub OfEachCycle : List AiredTables → (List AiredTables → AiredTables → Type 0) → Type 0
OfEachCycle airings P =
    (before after : List AiredTables) (a : AiredTables) → airings ≡ before ++ a ∷ after → P before a

-- None is short exactly where the span of each cycle is right.
abbrev pub TalliesTellWhetherKept : Type 0
TalliesTellWhetherKept =
    (rate : ℕ) (airings : List AiredTables)
    → ((tally_of (Some rate) airings).short ≡ 0) ↔ OfEachCycle airings (IsRight rate)

-- At the least rate that is told the span of each is right.
abbrev pub LeastRatesDo : Type 0
LeastRatesDo =
    (rate least : ℕ) (airings : List AiredTables)
    → least_rate (tally_of (Some rate) airings).most ≡ Some least
    → OfEachCycle airings (IsRight least)
