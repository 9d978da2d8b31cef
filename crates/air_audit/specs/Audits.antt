-- Airs, their prefixes, and packets that are consistent with an airing list so far (ISO/IEC 13818-1, 2.4.3.3 and 2.4.4).
use Rattle.std.specs.Prelude.{◌≡◌, ℕ, List, [], ◌∷◌, ◌++◌, map, filter_map, Option, Some, None}
use Rattle.std.specs.List.{AllByRecursion}
use Rattle.version_book.specs.Airings.{AiredTables}
use Rattle.ts_packets.specs.Bytes.{Packet, HasFields, bytes_of_packet}
use Rattle.ts_packets.specs.Counting.{of_pid, loads_on, Count}
use Rattle.air_model.specs.Air.{Sent, sent_on, cycle_sections, Aired, Cycles, HasNoNull, air, airings_of, IsAirOf}
use Rattle.air_audit.specs.Fronts.{ToCome, CarrySoFar}

-- These packets, each by its bytes, are an air of the airing list without null packets.
pub record AreAnAir (airings : List AiredTables) (packets : List (List ℕ)) : Type 0 where
  pub xs : List Aired
  pub is_air : IsAirOf airings xs
  pub no_null : HasNoNull (air xs)
  pub packets_are : map bytes_of_packet (air xs) ≡ packets

-- They are a prefix of an air.
pub record BeginAnAir (airings : List AiredTables) (packets : List (List ℕ)) : Type 0 where
  pub more : List (List ℕ)
  pub whole : AreAnAir airings (packets ++ more)

-- ---- consistent so far

-- the sections of a PID
abbrev pub on_pid : ℕ → List Sent → List (List ℕ)
on_pid pid ss = filter_map (sent_on pid) ss

-- the cycle of the last airing, if there is one, behind others
abbrev pub last_cycle : List AiredTables → Option AiredTables → List Sent
last_cycle past None = []
last_cycle past (Some a) = cycle_sections past a

abbrev pub and_last : List AiredTables → Option AiredTables → List AiredTables
and_last past None = past
and_last past (Some a) = past ++ a ∷ []

-- Packets are consistent with an airing list so far: they are cycles of all airings but the last, without null packets, and then on
-- each PID the sections of the last, as far as to what is still to come; the counters go on.
pub record SoFar (airings : List AiredTables) (packets : List Packet) (to_come : ℕ → ToCome) : Type 0 where
  pub xs : List Aired
  pub last : Option AiredTables
  pub handed : List Packet
  pub airings_are : airings ≡ and_last (airings_of xs) last
  pub packets_are : packets ≡ air xs ++ handed
  pub cycles : Cycles [] xs
  pub no_null : HasNoNull (air xs)
  pub carried : (pid : ℕ) → CarrySoFar (of_pid pid handed) (on_pid pid (last_cycle (airings_of xs) last)) (to_come pid)
  pub counted : (pid : ℕ) → Count 0 (loads_on pid packets)
  pub fields : AllByRecursion HasFields packets
