-- The air of an airing list at a bit rate, as it is recorded: with its null packets, or without
-- them.
use Rattle.std.specs.Prelude.{◌≡◌, ℕ, Bool, true, false, List, [], ◌++◌, map}
use Rattle.version_book.specs.Airings.{AiredTables}
use Rattle.ts_packets.specs.Bytes.{Packet, bytes_of_packet}
use Rattle.air_model.specs.Air.{Aired, air, airings_of}
use Rattle.cycle_timing.specs.Cycle.{AreTimed}
use Rattle.air_audit.specs.Passing.{past_nulls}

-- the packets that are looked at: all of them, or the others where null packets are passed over
abbrev pub seen : Bool → List (List ℕ) → List (List ℕ)
seen false packets = packets
seen true packets = past_nulls packets

abbrev pub seen_of : Bool → List Packet → List (List ℕ)
seen_of nulls packets = seen nulls (map bytes_of_packet packets)

-- These packets, each by its bytes, are those of the air of the airing list that are looked at.
pub record AreTheAir (rate : ℕ) (nulls : Bool) (airings : List AiredTables)
    (packets : List (List ℕ)) : Type 0 where
  pub xs : List Aired
  pub airings_are : airings_of xs ≡ airings
  pub timed : AreTimed rate [] xs
  pub packets_are : seen_of nulls (air xs) ≡ packets

-- They are its first ones.
pub record BeginTheAir (rate : ℕ) (nulls : Bool) (airings : List AiredTables)
    (packets : List (List ℕ)) : Type 0 where
  pub more : List (List ℕ)
  pub whole : AreTheAir rate nulls airings (packets ++ more)
