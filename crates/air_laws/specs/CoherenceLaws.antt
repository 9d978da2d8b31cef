-- Laws of what is completed of an air.
use Rattle.std.specs.Prelude.{◌≡◌, ℕ, ◌≤◌, List, length, take, map, slice_range, true}
use Rattle.std.specs.List.{AllByRecursion}
use Rattle.std.specs.Set.{is_member}
use Rattle.section_codec.specs.declared.table.Key.{Key}
use Rattle.section_codec.specs.KeyOrder.{is_key}
use Rattle.sub_collect.specs.KeyCounts.{section_keys}
use Rattle.guide_receiver.specs.Dones.{counted_heard}
use Rattle.air_laws.specs.Sending.{carried_keys}
use Rattle.version_book.specs.Airings.{AiredTables}
use Rattle.ts_packets.specs.Bytes.{bytes_of_packet}
use Rattle.air_model.specs.Air.{Aired, air, air_bytes}
use Rattle.air_model.specs.Repeating.{IsRepeatingAirOf}
use Rattle.air_laws.specs.Counting.{CanBeHeard}
use Rattle.ts_packets.specs.WholePackets.{whole_packets}
use Rattle.air_laws.specs.Coherence.{IsCoherent}

-- The air of any airings that can be heard is coherent, and so is the air of its first packets alone.
abbrev pub AirIsCoherent : Type 0
AirIsCoherent =
    (airings : List AiredTables) (xs : List Aired) → IsRepeatingAirOf airings xs → AllByRecursion CanBeHeard airings
    → (n : ℕ) → IsCoherent xs (take n (map bytes_of_packet (air xs)))

-- So are the whole packets of its first bytes, where it was cut in a packet.
abbrev pub FrontIsCoherent : Type 0
FrontIsCoherent =
    (airings : List AiredTables) (xs : List Aired) → IsRepeatingAirOf airings xs → AllByRecursion CanBeHeard airings
    → (n : ℕ) → IsCoherent xs (whole_packets (take n (air_bytes xs)))

-- Of the whole packets of the first bytes of an air, whichever are heard from one place on and before another: each section that counts has a
-- key that one of the airings carries.
abbrev pub HeardKeysAreCarried : Type 0
HeardKeysAreCarried =
    (airings : List AiredTables) (xs : List Aired) → IsRepeatingAirOf airings xs → AllByRecursion CanBeHeard airings
    → (n join end : ℕ) → end ≤ length (whole_packets (take n (air_bytes xs)))
    → (k : Key) → is_member is_key (section_keys (counted_heard (slice_range (whole_packets (take n (air_bytes xs))) join end))) k ≡ true
    → is_member is_key (carried_keys airings) k ≡ true
