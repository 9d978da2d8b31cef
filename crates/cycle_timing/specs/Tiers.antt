-- Sections of which so many are Fast, and so many Near, with their packets.
use Rattle.std.specs.Prelude.{ℕ, ◌+◌, ◌-◌, List, length, slice_index}
use Rattle.air_model.specs.Cycle.{Planned}

-- no quota cuts the body
abbrev pub tiers_of : ℕ → ℕ → List ℕ → Planned
tiers_of fasts nears sizes = record {
  fasts = fasts;
  nears = nears;
  fars = length sizes - (fasts + nears);
  size = slice_index sizes;
  quota = 0;
}
