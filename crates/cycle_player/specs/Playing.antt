-- What a player at a bit rate stands for: the airings whose cycles it has sent, and how far it has
-- come in the last.
use Rattle.std.specs.Prelude.{◌≡◌, ℕ, ◌<◌, List, [], ◌∷◌, ◌++◌, length, map, flat_map, Option}
use Rattle.guide_model.specs.declared.offset.Offset.{Offset}
use Rattle.version_book.specs.Airings.{AiredTables}
use Rattle.version_book.specs.Book.{GivenVersions, BookStandsFor, given_entries}
use Rattle.version_book.specs.declared.key_version.KeyVersion.{KeyVersion}
use Rattle.ts_packets.specs.Bytes.{Packet, bytes_of_packet}
use Rattle.ts_packets.specs.Counting.{StandFor}
use Rattle.ts_packets.specs.PidCounters.{AreCountersOf}
use Rattle.ts_packets.specs.declared.pid_counter.PidCounter.{PidCounter}
use Rattle.air_model.specs.Air.{Aired, air, airings_of}
use Rattle.air_model.specs.Making.{counted}
use Rattle.air_model.specs.Bursts.{paced_packets}
use Rattle.air_model.specs.Repeating.{IsRepeatingAirOf}
use Rattle.cycle_timing.specs.Again.{IsRight, AreRepeated, timings_after}
use Rattle.cycle_timing.specs.Airs.{CanAllBeTimed}
use Rattle.cycle_timing.specs.Apart.{AreApart}
use Rattle.cycle_timing.specs.Clock.{Clock}
use Rattle.cycle_timing.specs.Cycle.{sent_at, bursts_of, cycle_timed, clock_after, clock_of, AreTimed}
use Rattle.cycle_timing.specs.OnAir.{AreOnAir, sections_on_air}
use Rattle.cycle_timing.specs.Planning.{timings_of}
use Rattle.cycle_timing.specs.Times.{TellTheTime}
use Rattle.si_causes.specs.Causes.{AppendsFront}
use Rattle.cycle_player.specs.Clock.{reads, capped}
use Rattle.cycle_player.specs.declared.clock.Clock.{Clock as Kept}

-- what contracts see of a player: its version book, its counters, the packets of the cycle that are
-- still to come, not yet counted, what its TOTs say, its rate, and the clock at the end of the
-- cycle
pub record TimedPlaying : Type 0 where
  pub book : GivenVersions
  pub counters : List (Option ℕ)
  pub left : List Packet
  pub offsets : List Offset
  pub rate : ℕ
  pub clock : Clock

-- the packets of an airing's cycle with this clock, before they are counted
abbrev pub uncounted_at : ℕ → Clock → List AiredTables → AiredTables → List Packet
uncounted_at rate c past a =
    paced_packets (bursts_of (sent_at rate past c a) (timings_of rate past a))

-- the clock after these cycles, as it is kept
abbrev pub clock_kept : ℕ → List Aired → Clock
clock_kept rate xs = capped (clock_after rate (record { moment = 0; bits = 0 }) xs)

-- It has handed out these cycles at its rate, each after the others, and nothing is left.
pub record AtEnd (xs : List Aired) (player : TimedPlaying) : Type 0 where
  pub timed : AreTimed player.rate [] xs
  pub can : CanAllBeTimed xs
  pub versions : BookStandsFor (airings_of xs) player.book
  pub counters : StandFor (map bytes_of_packet (air xs)) player.counters
  pub clock : player.clock ≡ clock_kept player.rate xs
  pub none : player.left ≡ []

-- These are what a player that has handed out these cycles keeps: of each key the version and the
-- content that it was last given, of each PID that had a packet its counter, and the clock.
pub record AreKeptOf (rate : ℕ) (xs : List Aired) (keys : List KeyVersion) (pids : List PidCounter)
    (clock : Kept) : Type 0 where
  pub timed : AreTimed rate [] xs
  pub can : CanAllBeTimed xs
  pub versions : BookStandsFor (airings_of xs) (given_entries keys)
  pub counters : AreCountersOf (map bytes_of_packet (air xs)) pids
  pub clock_is : reads clock ≡ clock_kept rate xs

-- It has handed out the cycles of xs, and of that of x, which goes on with them, all but these
-- packets.
pub record Within (xs : List Aired) (x : Aired) (rest : List Packet) (player : TimedPlaying) :
    Type 0 where
  pub timed : AreTimed player.rate [] (xs ++ x ∷ [])
  pub can : CanAllBeTimed (xs ++ x ∷ [])
  pub handed : List Packet
  pub parts : x.packets ≡ handed ++ rest
  pub versions : BookStandsFor (airings_of (xs ++ x ∷ [])) player.book
  pub counters : StandFor (map bytes_of_packet (air xs ++ handed)) player.counters
  pub rest_is : rest ≡ counted (air xs ++ handed) player.left
  pub clock : player.clock ≡ clock_kept player.rate (xs ++ x ∷ [])

-- The cycle of an airing begins, at the moment of the swap or what the clock reads.
abbrev pub Begins : List Aired → AiredTables → TimedPlaying → Type 0
Begins xs a player =
    (x : Aired) × (x.airing ≡ a)
    × (x.packets
    ≡ cycle_timed player.rate (airings_of xs) (air xs) (clock_of player.rate xs a) a)
    × Within xs x x.packets player

-- A sink failed: some of the packets were handed out, and it took a front of their bytes.
abbrev pub GaveUp : List Aired → Aired → List Packet → Option (List ℕ) → Option (List ℕ)
    → TimedPlaying → Type 0
GaveUp xs x rest old new player =
    (handed left : List Packet) × (rest ≡ handed ++ left) × Within xs x left player
    × AppendsFront old new (flat_map bytes_of_packet handed)

-- ---- laws

-- What a player hands out is an air of its airings. Its sections stand where the plans say and are
-- apart, TDT and TOT tell the time, and where the span of a cycle is right, the cycle repeats its
-- sections in time.
pub record IsTimedAir (rate : ℕ) (xs : List Aired) : Type 0 where
  pub is_air : IsRepeatingAirOf (airings_of xs) xs
  pub stand : AreOnAir xs (sections_on_air rate [] xs)
  pub apart : AreApart rate (sections_on_air rate [] xs)
  pub time : TellTheTime rate xs
  pub again : (before : List Aired) (x : Aired) (after : List Aired) → xs ≡ before ++ x ∷ after
      → IsRight rate (airings_of before) x.airing
      → AreRepeated rate (airings_of before) x.airing (length (air (before ++ x ∷ [])))
      (timings_after rate before x.airing)
  -- and into a next cycle with equal sub-tables and the same form
  pub next : (before : List Aired) (x y : Aired) (after : List Aired)
      → xs ≡ before ++ x ∷ y ∷ after
      → y.airing.tables ≡ x.airing.tables → y.airing.form ≡ x.airing.form
      → IsRight rate (airings_of before) x.airing
      → AreRepeated rate (airings_of before) x.airing (length (air (before ++ x ∷ y ∷ [])))
      (timings_after rate before x.airing ++ timings_after rate (before ++ x ∷ []) y.airing)

-- So it is at the end of a cycle, and with all of a cycle that was begun.
abbrev pub TimedPlayersSendAirs : Type 0
TimedPlayersSendAirs =
    (xs : List Aired) (player : TimedPlaying) → 0 < player.rate → AtEnd xs player
    → IsTimedAir player.rate xs

abbrev pub CyclesBegunAreAirs : Type 0
CyclesBegunAreAirs =
    (xs : List Aired) (x : Aired) (rest : List Packet) (player : TimedPlaying) → 0 < player.rate
    → Within xs x rest player → IsTimedAir player.rate (xs ++ x ∷ [])
