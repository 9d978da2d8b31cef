-- Recordings in which null packets stand (ISO/IEC 13818-1, 2.4.3.3).
use Rattle.std.specs.Prelude.{◌≡◌, ℕ, List, ◌++◌, Bool, not, ◌&&◌, ◌==◌, map}
use Rattle.std.specs.List.{filter}
use Rattle.version_book.specs.Airings.{AiredTables}
use Rattle.ts_packets.specs.Bytes.{bytes_of_packet, pid_in}
use Rattle.air_model.specs.Air.{Aired, air, IsAirOf}
use Rattle.air_audit.specs.Audits.{AreAnAir, BeginAnAir}
use Rattle.air_audit.specs.Checking.{has_shape}

-- a recorded packet is a null packet: its header is one that is written, with the PID of null packets
abbrev pub is_null : List ℕ → Bool
is_null bytes = has_shape bytes && pid_in bytes == 8191

-- the packets that are not passed over
abbrev pub past_nulls : List (List ℕ) → List (List ℕ)
past_nulls packets = filter (λ (bytes : List ℕ). not (is_null bytes)) packets

-- ---- laws

-- Whatever null packets stand in an air, it is an air without null packets once these are passed over,
abbrev pub AirsArePassedOver : Type 0
AirsArePassedOver = (airings : List AiredTables) (xs : List Aired) → IsAirOf airings xs → AreAnAir airings (past_nulls (map bytes_of_packet (air xs)))

-- and so begins each front of it.
abbrev pub FrontsArePassedOver : Type 0
FrontsArePassedOver =
    (airings : List AiredTables) (xs : List Aired) (front more : List (List ℕ)) → IsAirOf airings xs → map bytes_of_packet (air xs) ≡ front ++ more
    → BeginAnAir airings (past_nulls front)
