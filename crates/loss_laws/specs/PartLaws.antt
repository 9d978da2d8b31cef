-- Laws of what is held of an air, whole or not.
use Rattle.std.specs.Prelude.{◌≢◌, ℕ, List, [], ◌∷◌, ◌++◌, take, map}
use Rattle.std.specs.List.{AllByRecursion, Contains}
use Rattle.section_codec.specs.declared.table.Key.{Key}
use Rattle.version_book.specs.Airings.{AiredTables}
use Rattle.ts_packets.specs.Bytes.{bytes_of_packet}
use Rattle.ts_packets.specs.WholePackets.{whole_packets}
use Rattle.sub_collect.specs.Parts.{part_of}
use Rattle.strict_receiver.specs.Strict.{taken_of}
use Rattle.strict_receiver.specs.Earlier.{taken_after}
use Rattle.air_model.specs.Air.{Aired, air, air_bytes}
use Rattle.air_model.specs.Repeating.{IsRepeatingAirOf}
use Rattle.air_laws.specs.Counting.{CanBeHeard}
use Rattle.loss_laws.specs.Thinned.{Fate, bytes_that_came, IsThinnedAir}
use Rattle.loss_laws.specs.Aired.{HasCoherentParts, IsPartAiredAmong}

-- Of the air of any airings that can be heard, and of its first packets, what is held of each key is of one airing,
abbrev pub PartIsOfOneAiring : Type 0
PartIsOfOneAiring =
    (airings : List AiredTables) (xs : List Aired) → IsRepeatingAirOf airings xs → AllByRecursion CanBeHeard airings
    → (n : ℕ) → HasCoherentParts xs (take n (map bytes_of_packet (air xs)))

-- and so it is of the whole packets of its first bytes, where it was cut in a packet.
abbrev pub FrontPartIsOfOneAiring : Type 0
FrontPartIsOfOneAiring =
    (airings : List AiredTables) (xs : List Aired) → IsRepeatingAirOf airings xs → AllByRecursion CanBeHeard airings
    → (n : ℕ) → HasCoherentParts xs (whole_packets (take n (air_bytes xs)))

-- What a strict receiver holds of a key of a thinned air, if anything, is of one airing, of whose cycle a packet came.
abbrev pub ThinnedPartIsOfOneAiring : Type 0
ThinnedPartIsOfOneAiring =
    (airings : List AiredTables) (xs : List Aired) → IsRepeatingAirOf airings xs → AllByRecursion CanBeHeard airings → (fates : List Fate) → IsThinnedAir xs fates
    → (k : Key) → part_of k (taken_of (bytes_that_came fates)) ≢ []
    → IsPartAiredAmong fates xs k (part_of k (taken_of (bytes_that_came fates)))

-- So it is where the receiver started afresh after each of some earlier recordings, and each is a thinned air of the same cycles: a packet of
-- that airing's cycle came in one of them.
abbrev pub PartOfRecordingsIsOfOneAiring : Type 0
PartOfRecordingsIsOfOneAiring =
    (airings : List AiredTables) (xs : List Aired) → IsRepeatingAirOf airings xs → AllByRecursion CanBeHeard airings
    → (earlier : List (List Fate)) (fates : List Fate) → AllByRecursion (IsThinnedAir xs) (earlier ++ fates ∷ [])
    → (k : Key) → part_of k (taken_after (map bytes_that_came earlier) (bytes_that_came fates)) ≢ []
    → (one : List Fate) × Contains (earlier ++ fates ∷ []) one
    × IsPartAiredAmong one xs k (part_of k (taken_after (map bytes_that_came earlier) (bytes_that_came fates)))
