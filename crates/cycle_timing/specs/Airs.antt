-- What an air of cycles at a bit rate is to receivers: an air of its airings.
use Rattle.std.specs.Prelude.{ℕ, ◌≤◌, List, []}
use Rattle.std.specs.List.{AllByRecursion}
use Rattle.version_book.specs.Airings.{AiredTables}
use Rattle.ts_packets.specs.Bytes.{Packet}
use Rattle.air_model.specs.Air.{Aired, IsSendable, airings_of}
use Rattle.air_model.specs.Repeating.{IsRepeatingCycle, IsRepeatingAirOf}
use Rattle.cycle_timing.specs.Clock.{Clock, last_moment}
use Rattle.cycle_timing.specs.Cycle.{cycle_timed, AreTimed}

-- an airing that can be sent, with a moment that can be told
pub record CanBeTimed (a : AiredTables) : Type 0 where
  pub sendable : IsSendable a
  pub moment : a.moment ≤ last_moment

abbrev pub CanAllBeTimed : List Aired → Type 0
CanAllBeTimed xs = AllByRecursion (λ (x : Aired). CanBeTimed x.airing) xs

-- A cycle at a bit rate is one of its airing that repeats sections as it likes, where its clock is
-- not before the airing's moment,
abbrev pub TimedCyclesAreCycles : Type 0
TimedCyclesAreCycles =
    (rate : ℕ) (past : List AiredTables) (sent : List Packet) (c : Clock) (a : AiredTables)
    → CanBeTimed a → a.moment ≤ c.moment
    → IsRepeatingCycle past (record { airing = a; packets = cycle_timed rate past sent c a })

-- and these cycles are an air of their airings.
abbrev pub TimedAirsAreAirs : Type 0
TimedAirsAreAirs =
    (rate : ℕ) (xs : List Aired) → AreTimed rate [] xs → CanAllBeTimed xs
    → IsRepeatingAirOf (airings_of xs) xs
