-- An air without its null packets.
use Rattle.std.specs.Prelude.{◌≡◌, List, map, Bool, not, ◌==◌}
use Rattle.std.specs.List.{filter}
use Rattle.version_book.specs.Airings.{AiredTables}
use Rattle.ts_packets.specs.Bytes.{Packet}
use Rattle.air_model.specs.Air.{Aired, HasNoNull, air, IsAirOf}
use Rattle.air_model.specs.Repeating.{IsRepeatingAirOf}

abbrev pub is_other : Packet → Bool
is_other p = not (p.pid == 8191)

-- the packets that are no null packets
abbrev pub without_nulls : List Packet → List Packet
without_nulls packets = filter is_other packets

-- cycles without their null packets
abbrev pub plain_cycle : Aired → Aired
plain_cycle x = record { airing = x.airing; packets = without_nulls x.packets }

abbrev pub plain : List Aired → List Aired
plain xs = map plain_cycle xs

-- ---- laws

-- An air without its null packets is an air of the same airings,
abbrev pub NullsAreLeftOut : Type 0
NullsAreLeftOut = (airings : List AiredTables) (xs : List Aired) → IsAirOf airings xs → IsAirOf airings (plain xs)

-- so too where its cycles repeat sections as they like;
abbrev pub RepeatingNullsAreLeftOut : Type 0
RepeatingNullsAreLeftOut = (airings : List AiredTables) (xs : List Aired) → IsRepeatingAirOf airings xs → IsRepeatingAirOf airings (plain xs)

-- its packets are those that are no null packets,
abbrev pub PlainAirsArePackets : Type 0
PlainAirsArePackets = (xs : List Aired) → air (plain xs) ≡ without_nulls (air xs)

-- and none of them is one.
abbrev pub PlainAirsHaveNoNull : Type 0
PlainAirsHaveNoNull = (airings : List AiredTables) (xs : List Aired) → IsRepeatingAirOf airings xs → HasNoNull (air (plain xs))
