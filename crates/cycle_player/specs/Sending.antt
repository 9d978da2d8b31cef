-- What a player stands for: the airings whose cycles it has sent, and how far it has come in the
-- last.
use Rattle.std.specs.Prelude.{◌≡◌, ℕ, List, ◌++◌, flat_map, Option, Some, None}
use Rattle.version_book.specs.Airings.{CycleForm, AiredTables}
use Rattle.version_book.specs.Book.{GivenVersions}
use Rattle.version_book.specs.declared.key_version.KeyVersion.{KeyVersion}
use Rattle.ts_packets.specs.Bytes.{Packet, bytes_of_packet}
use Rattle.ts_packets.specs.declared.pid_counter.PidCounter.{PidCounter}
use Rattle.air_model.specs.Air.{Aired}
use Rattle.cycle_timing.specs.Clock.{Clock}
use Rattle.carousel_player.specs.Playing.{Playing}
use Rattle.carousel_player.specs.Playing as dense
use Rattle.cycle_player.specs.Playing.{TimedPlaying}
use Rattle.cycle_player.specs.Playing as timed
use Rattle.cycle_player.specs.declared.clock.Clock.{Clock as KeptClock}
use Rattle.cycle_player.specs.Tally.{Tallied}
use Rattle.si_causes.specs.Causes.{AppendsFront}
use Rattle.cycle_player.specs.Airs.{cycle_at}

-- what contracts see of a player: its version book, its counters, the packets of the cycle that are
-- still to come, not yet counted, the form of its cycles, its bit rate where it has one, the clock at
-- the end of the cycle, which is not used where it has none, and the tally of the cycles at a rate
-- that it has begun
pub record Sending : Type 0 where
  pub book : GivenVersions
  pub counters : List (Option ℕ)
  pub left : List Packet
  pub form : CycleForm
  pub rate : Option ℕ
  pub clock : Clock
  pub tally : Tallied

-- as a player without a bit rate, and as one at this rate
abbrev pub as_dense : Sending → Playing
as_dense s = record { book = s.book; counters = s.counters; left = s.left; form = s.form }

abbrev pub as_timed : ℕ → Sending → TimedPlaying
as_timed rate s = record {
  book = s.book;
  counters = s.counters;
  left = s.left;
  offsets = s.form.offsets;
  rate = rate;
  clock = s.clock;
}

-- ---- at the end of a cycle

abbrev pub AtEndAt : Option ℕ → List Aired → Sending → Type 0
AtEndAt None xs s = dense.AtEnd xs (as_dense s)
AtEndAt (Some rate) xs s = timed.AtEnd xs (as_timed rate s)

-- It has handed out these cycles, each after the others, and nothing is left.
abbrev pub AtEnd : List Aired → Sending → Type 0
AtEnd xs s = AtEndAt s.rate xs s

-- These are what a player that has handed out these cycles keeps: of each key the version and the
-- content that it was last given, of each PID that had a packet its counter, and the clock.
abbrev pub AreKeptAt : Option ℕ → List Aired → List KeyVersion → List PidCounter → KeptClock → Type 0
AreKeptAt None xs keys pids clock = dense.AreKeptOf xs keys pids
AreKeptAt (Some rate) xs keys pids clock = timed.AreKeptOf rate xs keys pids clock

-- ---- within a cycle

abbrev pub WithinAt : Option ℕ → List Aired → Aired → List Packet → Sending → Type 0
WithinAt None xs x rest s = dense.Within xs x rest (as_dense s)
WithinAt (Some rate) xs x rest s = timed.Within xs x rest (as_timed rate s)

-- It has handed out the cycles of xs, and of that of x, which goes on with them, all but these
-- packets.
abbrev pub Within : List Aired → Aired → List Packet → Sending → Type 0
Within xs x rest s = WithinAt s.rate xs x rest s

-- The cycle of an airing begins.
abbrev pub Begins : List Aired → AiredTables → Sending → Type 0
Begins xs a s =
    (x : Aired) × (x.airing ≡ a) × (x.packets ≡ cycle_at s.rate xs a) × Within xs x x.packets s

-- A sink failed: some of the packets were handed out, and it took a front of their bytes.
abbrev pub GaveUp : List Aired → Aired → List Packet → Option (List ℕ) → Option (List ℕ)
    → Sending → Type 0
GaveUp xs x rest old new s =
    (handed left : List Packet) × (rest ≡ handed ++ left) × Within xs x left s
    × AppendsFront old new (flat_map bytes_of_packet handed)
