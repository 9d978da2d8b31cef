-- The sections of a cycle that are still to be sent.
use Rattle.std.specs.Prelude.{ℕ, ◌<◌, List, [], ◌∷◌, Option, Some, None, length, map}
use Rattle.std.specs.List.{AllByRecursion}
use Rattle.air_model.specs.Air.{Sent, at_places}
use Rattle.air_model.specs.declared.placed.Placed.{Placed}
use Rattle.air_model.specs.Laying.{IsPlaced, sent_at}

-- the places still to come: that of the section that is being sent, and those behind it; none where none is being sent
abbrev pub order_left : Option ℕ → List ℕ → List ℕ
order_left None order = []
order_left (Some at) order = at ∷ order

-- what is to be sent of this order
abbrev pub sections_left : List ℕ → List Placed → List ℕ → List Sent
sections_left bytes placed order = map (sent_at bytes) (at_places placed order)

-- each section of this order is placed
pub record AreToCome (size : ℕ) (placed : List Placed) (order : List ℕ) : Type 0 where
  pub within : AllByRecursion (λ (at : ℕ). at < length placed) order
  pub sections : AllByRecursion (IsPlaced size) (at_places placed order)
