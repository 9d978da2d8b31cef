-- Airs of cycles, at a bit rate or without one.
use Rattle.std.specs.Prelude.{ℕ, List, Option, Some, None}
use Rattle.version_book.specs.Airings.{AiredTables}
use Rattle.ts_packets.specs.Bytes.{Packet}
use Rattle.air_model.specs.Air.{Aired, IsAirOf, air, airings_of}
use Rattle.air_model.specs.Making.{AreMade, cycle_dense}
use Rattle.air_model.specs.Repeating.{IsRepeatingAirOf}
use Rattle.cycle_timing.specs.Cycle.{AreTimed, cycle_timed, clock_of}

-- the packets of an airing's cycle after these cycles
abbrev pub cycle_at : Option ℕ → List Aired → AiredTables → List Packet
cycle_at None before a = cycle_dense (airings_of before) (air before) a
cycle_at (Some rate) before a =
    cycle_timed rate (airings_of before) (air before) (clock_of rate before a) a

-- each of these cycles, after others, has these packets and no others
abbrev pub AreMadeAt : Option ℕ → List Aired → List Aired → Type 0
AreMadeAt None before xs = AreMade before xs
AreMadeAt (Some rate) before xs = AreTimed rate before xs

-- These cycles are an air of these airings. At a bit rate sections are repeated as the plan says,
-- and null packets stand between them.
abbrev pub IsAirAt : Option ℕ → List AiredTables → List Aired → Type 0
IsAirAt None airings xs = IsAirOf airings xs
IsAirAt (Some rate) airings xs = IsRepeatingAirOf airings xs
