-- Packets that are handed out, from those to come, with their counters.
use Rattle.std.specs.Prelude.{◌≡◌, ℕ, ◌<◌, List, [], ◌∷◌, ◌++◌, map, flat_map, Option}
use Rattle.std.specs.List.{AllByRecursion}
use Rattle.std.specs.Io.KnownBytes.{Appends}
use Rattle.ts_packets.specs.Bytes.{Packet, HasFields, bytes_of_packet}
use Rattle.ts_packets.specs.Counting.{StandFor}
use Rattle.si_causes.specs.Causes.{AppendsFront}
use Rattle.air_model.specs.Making.{counted}

-- a packet that can be sent and is not yet counted
pub record IsUncounted (p : Packet) : Type 0 where
  pub pid : p.pid < 8192
  pub counter : p.counter ≡ 0

-- The first of the packets to come was written, and the others are left.
abbrev pub PutsFirst : List Packet → List Packet → List ℕ → Type 0
PutsFirst [] left bytes = Unit {0}
PutsFirst (p ∷ ps) left bytes = (left ≡ ps) × (bytes ≡ bytes_of_packet p) × IsUncounted p

-- A front of the packets to come was handed out as these bytes, each packet with its counter: so it is after whatever
-- packets the counters stood for, and they stand for those and these now.
pub record Sends (old new : List Packet) (counters counters_new : List (Option ℕ)) (bytes : List ℕ) : Type 0 where
  pub front : List Packet
  pub cut : old ≡ front ++ new
  pub fit : AllByRecursion IsUncounted front
  pub bytes_are : (past : List Packet) → AllByRecursion HasFields past → StandFor (map bytes_of_packet past) counters → bytes ≡ flat_map bytes_of_packet (counted past front)
  pub count : (past : List Packet) → AllByRecursion HasFields past → StandFor (map bytes_of_packet past) counters → StandFor (map bytes_of_packet (past ++ counted past front)) counters_new

-- All packets to come were handed out, and a sink took their bytes.
pub record SentAll (old new : List Packet) (counters counters_new : List (Option ℕ)) (taken taken_new : Option (List ℕ)) : Type 0 where
  pub bytes : List ℕ
  pub sends : Sends old new counters counters_new bytes
  pub none : new ≡ []
  pub appends : Appends taken taken_new bytes

-- A front of them was handed out, and a sink took a front of the bytes of these.
pub record SentFront (old new : List Packet) (counters counters_new : List (Option ℕ)) (taken taken_new : Option (List ℕ)) : Type 0 where
  pub bytes : List ℕ
  pub sends : Sends old new counters counters_new bytes
  pub front : AppendsFront taken taken_new bytes
