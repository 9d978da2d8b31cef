-- The sections of a cycle at a bit rate, its packets, and an air of such cycles.
use Rattle.std.specs.Prelude.{◌≡◌, ℕ, ◌+◌, ◌-◌, List, [], ◌∷◌, ◌++◌, Option, if◌then◌else◌, nat_lt, map, length, filter_map, slice_get}
use Rattle.version_book.specs.Airings.{AiredTables}
use Rattle.ts_packets.specs.Bytes.{Packet}
use Rattle.air_timing.specs.declared.timing.Timing.{Timing}
use Rattle.air_model.specs.Air.{Sent, Aired, sections_once, air, airings_of}
use Rattle.air_model.specs.Making.{counted}
use Rattle.air_model.specs.Bursts.{Burst, paced_packets}
use Rattle.cycle_timing.specs.Planning.{timings_of}
use Rattle.cycle_timing.specs.Clock.{Clock, later, at_swap, told_at}

-- ---- its sections

-- an airing, were it swapped at this moment
abbrev pub at_moment : ℕ → AiredTables → AiredTables
at_moment moment a = record { tables = a.tables; moment = moment; form = a.form }

-- A section is sent as it is at the moment of the packet in which it begins: TDT and TOT say it.
abbrev pub sent_at : ℕ → List AiredTables → Clock → AiredTables → Timing → Option Sent
sent_at rate past c a t =
    slice_get (sections_once past (at_moment (told_at rate c t.first) a)) t.section

-- ---- its packets

-- so many null packets, and then sections that share packets
pub record Run : Type 0 where
  pub nulls : ℕ
  pub part : List Timing

-- the rest of the run at hand, and the runs after it
pub record Runs : Type 0 where
  pub part : List Timing
  pub runs : List Run

-- After n packets: a section that begins in the last of them shares it. Null packets stand before
-- any other one.
abbrev pub with_section : ℕ → Timing → Runs → Runs
with_section n t r =
    if nat_lt t.first n then record { part = t ∷ r.part; runs = r.runs }
    else record { part = []; runs = record { nulls = t.first - n; part = t ∷ r.part } ∷ r.runs }

abbrev pub runs_from : ℕ → List Timing → Runs
runs_from n [] = record { part = []; runs = [] }
runs_from n (t ∷ ts) = with_section n t (runs_from (t.last + 1) ts)

-- the runs of a cycle from its first packet on
abbrev pub runs_of : List Timing → List Run
runs_of ts = (runs_from 0 ts).runs

abbrev pub burst_of : (Timing → Option Sent) → Run → Burst
burst_of sent r = record { nulls = r.nulls; sections = filter_map sent r.part }

abbrev pub bursts_of : (Timing → Option Sent) → List Timing → List Burst
bursts_of sent ts = map (burst_of sent) (runs_of ts)

-- the packets of an airing's cycle after other airings and their packets, with this clock
abbrev pub cycle_timed : ℕ → List AiredTables → List Packet → Clock → AiredTables → List Packet
cycle_timed rate past sent c a =
    counted sent (paced_packets (bursts_of (sent_at rate past c a) (timings_of rate past a)))

-- ---- an air

-- the clock after these cycles,
abbrev pub clock_after : ℕ → Clock → List Aired → Clock
clock_after rate c [] = c
clock_after rate c (x ∷ xs) =
    clock_after rate (later rate (length x.packets) (at_swap x.airing.moment c)) xs

-- and that of the cycle of an airing which follows them
abbrev pub clock_of : ℕ → List Aired → AiredTables → Clock
clock_of rate before a =
    at_swap a.moment (clock_after rate (record { moment = 0; bits = 0 }) before)

-- each of these cycles, after others, has these packets and no others
abbrev pub AreTimed : ℕ → List Aired → List Aired → Type 0
AreTimed rate before [] = Unit {0}
AreTimed rate before (x ∷ xs) =
    (x.packets
    ≡ cycle_timed rate (airings_of before) (air before) (clock_of rate before x.airing) x.airing)
    × AreTimed rate (before ++ x ∷ []) xs
