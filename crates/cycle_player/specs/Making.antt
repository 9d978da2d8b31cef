-- The cycles that airings make, and what the clock tells between them.
use Rattle.std.specs.Prelude.{◌≡◌, ℕ, ◌<◌, ◌*◌, List, [], ◌∷◌, ◌++◌, take, Option, Some, None, IfSome}
use Rattle.si_time.specs.declared.moment.Moment.{Moment}
use Rattle.version_book.specs.Airings.{AiredTables}
use Rattle.air_model.specs.Air.{Aired, airings_of}
use Rattle.cycle_timing.specs.Cycle.{clock_after}
use Rattle.cycle_player.specs.Airs.{cycle_at, AreMadeAt}
use Rattle.cycle_player.specs.Ticks.{told_by}

-- the cycle of an airing after these
abbrev pub cycle_of : Option ℕ → List Aired → AiredTables → Aired
cycle_of rate before a = record { airing = a; packets = cycle_at rate before a }

-- the cycles of these airings, after others
abbrev pub cycles_from : Option ℕ → List Aired → List AiredTables → List Aired
cycles_from rate before [] = []
cycles_from rate before (a ∷ airings) =
    cycle_of rate before a ∷ cycles_from rate (before ++ cycle_of rate before a ∷ []) airings

-- what the clock tells after these cycles; nothing without a bit rate
abbrev pub tick_after : Option ℕ → List Aired → Option Moment
tick_after None xs = None
tick_after (Some rate) xs = told_by (clock_after rate (record { moment = 0; bits = 0 }) xs)

-- what it tells after the cycles of these airings,
abbrev pub tick_then : Option ℕ → List AiredTables → Option Moment
tick_then rate airings = tick_after rate (cycles_from rate [] airings)

-- and before airing n, counted from 0
abbrev pub tick_before : Option ℕ → List AiredTables → ℕ → Option Moment
tick_before rate airings n = tick_then rate (take n airings)

-- 16 bits of days say what is told (EN 300 468, annex C)
abbrev pub IsToldTick : Option Moment → Type 0
IsToldTick tick = IfSome tick (λ (at : Moment). at.0 < 65536 * 86400)

-- ---- a law

-- Cycles that are made are those of their airings: the airings make the same air again.
abbrev pub AirIsMadeAgain : Type 0
AirIsMadeAgain =
    (rate : Option ℕ) (xs : List Aired) → AreMadeAt rate [] xs
    → xs ≡ cycles_from rate [] (airings_of xs)
