-- How far apart the sections of one sub-table are on air.
use Rattle.std.specs.Prelude.{◌≡◌, ℕ, ◌+◌, ◌-◌, ◌*◌, ◌<◌, ◌≤◌, List, [], ◌∷◌, ◌++◌}
use Rattle.air_model.specs.Air.{Aired}
use Rattle.cycle_timing.specs.SubTables.{name_of}
use Rattle.cycle_timing.specs.Cycle.{AreTimed}
use Rattle.cycle_timing.specs.OnAir.{OnAir, sections_on_air}

-- The packets between the last byte of the one and the first of the other last 25 ms or more.
pub record IsApart (rate : ℕ) (one two : OnAir) : Type 0 where
  pub later : one.last < two.first
  pub gap : 25 * rate ≤ 1000 * (1504 * (two.first - (one.last + 1)))

-- So are any two sections that have one PID, table_id and table_id_extension (EN 300 468, 5.1.4),
abbrev pub AreApart : ℕ → List OnAir → Type 0
AreApart rate sections =
    (before between after : List OnAir) (one two : OnAir)
    → sections ≡ before ++ one ∷ (between ++ two ∷ after)
    → name_of one.sent ≡ name_of two.sent → IsApart rate one two

-- whatever airings these are, in one cycle and from any to any later one.
abbrev pub TimedAirsAreApart : Type 0
TimedAirsAreApart =
    (rate : ℕ) (xs : List Aired) → AreTimed rate [] xs → AreApart rate (sections_on_air rate [] xs)
