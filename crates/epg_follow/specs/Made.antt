-- Cycles that are made are determined by their airings.
use Rattle.std.specs.Prelude.{◌≡◌, ℕ, List, Option}
use Rattle.air_model.specs.Air.{Aired, airings_of}
use Rattle.cycle_player.specs.Airs.{AreMadeAt}

-- Two lists of cycles that are made after the same earlier ones and have the same airings are one.
abbrev pub MadeIsOne : Type 0
MadeIsOne =
    (rate : Option ℕ) (earlier xs ys : List Aired)
    → AreMadeAt rate earlier xs → AreMadeAt rate earlier ys → airings_of xs ≡ airings_of ys
    → xs ≡ ys
