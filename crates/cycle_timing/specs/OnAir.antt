-- The sections of an air at a bit rate: where each stands, and what the clock reads there.
use Rattle.std.specs.Prelude.{ℕ, ◌+◌, ◌<◌, List, [], ◌∷◌, ◌++◌, length, map, filter_map, option_map}
use Rattle.std.specs.List.{AllByRecursion}
use Rattle.ts_packets.specs.Counting.{of_pid}
use Rattle.ts_packets.specs.Packets.{Carries}
use Rattle.air_timing.specs.declared.timing.Timing.{Timing}
use Rattle.air_model.specs.Air.{Sent, Aired, sent_on, air, airings_of}
use Rattle.version_book.specs.Airings.{AiredTables}
use Rattle.cycle_timing.specs.Planning.{timings_of}
use Rattle.cycle_timing.specs.Clock.{Clock, told_at}
use Rattle.cycle_timing.specs.Cycle.{sent_at, clock_of, AreTimed}
use Rattle.cycle_timing.specs.Places.{StandsIn}

-- a section, the packets of its first and of its last byte, and what the clock reads in the first
pub record OnAir : Type 0 where
  pub sent : Sent
  pub first : ℕ
  pub last : ℕ
  pub moment : ℕ

-- of a cycle that begins after n packets with this clock
abbrev pub on_air : ℕ → ℕ → Clock → Timing → Sent → OnAir
on_air rate n c t s = record {
  sent = s;
  first = n + t.first;
  last = n + t.last;
  moment = told_at rate c t.first;
}

abbrev pub cycle_on_air : ℕ → List Aired → AiredTables → List OnAir
cycle_on_air rate before a =
    filter_map (λ (t : Timing).
    option_map (on_air rate (length (air before)) (clock_of rate before a) t)
    (sent_at rate (airings_of before) (clock_of rate before a) a t))
    (timings_of rate (airings_of before) a)

-- those of these cycles, which follow others
abbrev pub sections_on_air : ℕ → List Aired → List Aired → List OnAir
sections_on_air rate before [] = []
sections_on_air rate before (x ∷ xs) =
    cycle_on_air rate before x.airing ++ sections_on_air rate (before ++ x ∷ []) xs

-- ---- laws

-- Each section begins and ends in these packets of the air,
abbrev pub StandThere : List Aired → List OnAir → Type 0
StandThere xs sections =
    AllByRecursion (λ (s : OnAir). StandsIn (air xs) s.first s.last s.sent) sections

-- and on each PID the air has these sections and no others.
abbrev pub AreAll : List Aired → List OnAir → Type 0
AreAll xs sections =
    (pid : ℕ) → pid < 8191
    → Carries (of_pid pid (air xs))
    (filter_map (sent_on pid) (map (λ (s : OnAir). s.sent) sections))

pub record AreOnAir (xs : List Aired) (sections : List OnAir) : Type 0 where
  pub stand : StandThere xs sections
  pub all : AreAll xs sections

abbrev pub TimedSectionsAreOnAir : Type 0
TimedSectionsAreOnAir =
    (rate : ℕ) (xs : List Aired) → AreTimed rate [] xs → AreOnAir xs (sections_on_air rate [] xs)
