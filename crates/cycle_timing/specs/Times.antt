-- What an air at a bit rate says of the time (EN 300 468, 5.2.5 and 5.2.6).
use Rattle.std.specs.Prelude.{◌≡◌, ℕ, ◌+◌, ◌-◌, ◌<◌, ◌≤◌, List, [], ◌∷◌, ◌++◌, min, slice_index}
use Rattle.std.specs.List.{AllByRecursion}
use Rattle.guide_model.specs.declared.offset.Offset.{Offset}
use Rattle.time_tables.specs.Tdt.{tdt_section}
use Rattle.time_tables.specs.Tot.{tot_section}
use Rattle.version_book.specs.Airings.{AiredTables}
use Rattle.air_timing.specs.Rate.{seconds_of}
use Rattle.air_model.specs.Air.{Aired}
use Rattle.cycle_timing.specs.Airs.{CanAllBeTimed}
use Rattle.cycle_timing.specs.Clock.{last_moment}
use Rattle.cycle_timing.specs.Cycle.{AreTimed}
use Rattle.cycle_timing.specs.OnAir.{OnAir, cycle_on_air, sections_on_air}

-- A TDT and a TOT tell what the clock reads in the packet in which they begin.
pub record TellsIts (s : OnAir) : Type 0 where
  pub tdt : slice_index s.sent.bytes 0 ≡ 0x70 → s.sent.bytes ≡ tdt_section s.moment
  pub tot : slice_index s.sent.bytes 0 ≡ 0x73
      → (offsets : List Offset) × (s.sent.bytes ≡ tot_section s.moment offsets)

-- the whole seconds that the packets from the one to the other last
abbrev pub seconds_to : ℕ → OnAir → OnAir → ℕ
seconds_to rate one two = seconds_of rate (two.first - one.first)

-- From one section to a later one the clock goes on by the seconds of the packets or more, up to
-- the last moment that can be told;
abbrev pub GoesOn : ℕ → OnAir → OnAir → Type 0
GoesOn rate one two = min last_moment (one.moment + seconds_to rate one two) ≤ two.moment

abbrev pub EachGoesOn : ℕ → List OnAir → Type 0
EachGoesOn rate sections =
    (before between after : List OnAir) (one two : OnAir)
    → sections ≡ before ++ one ∷ (between ++ two ∷ after) → GoesOn rate one two

-- in one cycle by no more than these, and the second that is begun.
abbrev pub EachKeepsTime : ℕ → List OnAir → Type 0
EachKeepsTime rate sections =
    (before between after : List OnAir) (one two : OnAir)
    → sections ≡ before ++ one ∷ (between ++ two ∷ after)
    → two.moment ≤ one.moment + seconds_to rate one two + 1

-- It is never before the moment of its swap.
pub record IsOnTime (rate : ℕ) (before : List Aired) (a : AiredTables) : Type 0 where
  pub keeps : EachKeepsTime rate (cycle_on_air rate before a)
  pub swapped : AllByRecursion (λ (s : OnAir). a.moment ≤ s.moment) (cycle_on_air rate before a)

pub record TellTheTime (rate : ℕ) (xs : List Aired) : Type 0 where
  pub tell : AllByRecursion TellsIts (sections_on_air rate [] xs)
  pub go_on : EachGoesOn rate (sections_on_air rate [] xs)
  pub cycles : (before : List Aired) (x : Aired) (after : List Aired) → xs ≡ before ++ x ∷ after
      → IsOnTime rate before x.airing

abbrev pub TimedAirsTellTheTime : Type 0
TimedAirsTellTheTime =
    (rate : ℕ) (xs : List Aired) → 0 < rate → AreTimed rate [] xs → CanAllBeTimed xs
    → TellTheTime rate xs
