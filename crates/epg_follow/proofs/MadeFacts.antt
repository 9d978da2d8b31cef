-- Cycles that are made are determined by their airings.
use Rattle.std.proofs.Common.{ℕ, List, [], Option, Some, None, ◌∙◌, sym, ap}
use Rattle.air_model.specs.Air.{Aired}
use Rattle.cycle_player.specs.Airs.{AreMadeAt}
use Rattle.cycle_player.specs.Making.{cycles_from}
use Rattle.cycle_player.proofs.Making.{made_are}
use Rattle.epg_follow.specs.Made.{MadeIsOne}

pub made_is_one : MadeIsOne
made_is_one rate earlier xs ys one other same =
    made_are rate earlier xs one ∙ ap (cycles_from rate earlier) same ∙ sym (made_are rate earlier ys other)

-- no cycle is made after others
pub none_made : (rate : Option ℕ) (earlier : List Aired) → AreMadeAt rate earlier []
none_made None earlier = tt
none_made (Some rate) earlier = tt
