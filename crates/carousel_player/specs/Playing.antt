-- What a player stands for: the airings whose cycles it has sent, and how far it has come in the last.
use Rattle.std.specs.Prelude.{◌≡◌, ℕ, List, [], ◌∷◌, ◌++◌, map, flat_map, Option}
use Rattle.version_book.specs.Airings.{CycleForm, AiredTables}
use Rattle.version_book.specs.Book.{GivenVersions, BookStandsFor, given_entries}
use Rattle.version_book.specs.declared.key_version.KeyVersion.{KeyVersion}
use Rattle.ts_packets.specs.Bytes.{Packet, bytes_of_packet}
use Rattle.ts_packets.specs.Counting.{StandFor}
use Rattle.ts_packets.specs.PidCounters.{AreCountersOf}
use Rattle.ts_packets.specs.declared.pid_counter.PidCounter.{PidCounter}
use Rattle.air_model.specs.Air.{Aired, HasNoNull, air, airings_of, IsAirOf}
use Rattle.air_model.specs.Making.{counted, cycle_dense}
use Rattle.si_causes.specs.Causes.{AppendsFront}

-- what contracts see of a player: its version book, its counters, the packets of the cycle that are still to come, not yet counted,
-- and the form of its cycles
pub record Playing : Type 0 where
  pub book : GivenVersions
  pub counters : List (Option ℕ)
  pub left : List Packet
  pub form : CycleForm

-- its versions stand for the airings of xs, and its counters for these packets
pub record HasSent (xs : List Aired) (sent : List Packet) (player : Playing) : Type 0 where
  pub versions : BookStandsFor (airings_of xs) player.book
  pub counters : StandFor (map bytes_of_packet sent) player.counters

-- It has handed out just this air, one whole cycle for each airing and no null packet, and nothing is left.
pub record AtEnd (xs : List Aired) (player : Playing) : Type 0 where
  pub is_air : IsAirOf (airings_of xs) xs
  pub no_null : HasNoNull (air xs)
  pub sent : HasSent xs (air xs) player
  pub none : player.left ≡ []

-- These are what a player that has handed out the air of xs keeps: of each key the version and the content that it was
-- last given, and of each PID that had a packet its counter. No packet was a null packet.
pub record AreKeptOf (xs : List Aired) (keys : List KeyVersion) (pids : List PidCounter) : Type 0 where
  pub is_air : IsAirOf (airings_of xs) xs
  pub no_null : HasNoNull (air xs)
  pub versions : BookStandsFor (airings_of xs) (given_entries keys)
  pub counters : AreCountersOf (map bytes_of_packet (air xs)) pids

-- It has handed out the air of xs, and of the cycle of x, which goes on with that air, all but these packets. None is a null packet.
pub record Within (xs : List Aired) (x : Aired) (rest : List Packet) (player : Playing) : Type 0 where
  pub is_air : IsAirOf (airings_of (xs ++ x ∷ [])) (xs ++ x ∷ [])
  pub no_null : HasNoNull (air (xs ++ x ∷ []))
  pub handed : List Packet
  pub parts : x.packets ≡ handed ++ rest
  pub sent : HasSent (xs ++ x ∷ []) (air xs ++ handed) player
  pub rest_is : rest ≡ counted (air xs ++ handed) player.left

-- The cycle of an airing begins. Its packets are those of its stretches one after the other, the sections of each sharing packets,
-- and their counters go on.
abbrev pub Begins : List Aired → AiredTables → Playing → Type 0
Begins xs a player = (x : Aired) × (x.airing ≡ a) × (x.packets ≡ cycle_dense (airings_of xs) (air xs) a) × Within xs x x.packets player

-- A sink failed: some of the packets were handed out, and it took a front of their bytes.
abbrev pub GaveUp : List Aired → Aired → List Packet → Option (List ℕ) → Option (List ℕ) → Playing → Type 0
GaveUp xs x rest old new player =
    (handed left : List Packet) × (rest ≡ handed ++ left) × Within xs x left player × AppendsFront old new (flat_map bytes_of_packet handed)
