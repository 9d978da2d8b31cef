-- What a planner is given: of each section its tier and how many packets it has.
use Rattle.std.specs.Prelude.{ℕ, ◌+◌, ◌-◌, ◌≤◌, List, [], ◌∷◌, Bool, true, false, slice_index, length, map, count_by}
use Rattle.section_codec.specs.declared.table.Tier3.{Tier3}
use Rattle.section_codec.specs.declared.table.Tier3.TheVariants.{Fast, Near, Far}
use Rattle.section_codec.specs.Tables.{tier_rank}
use Rattle.air_model.specs.Cycle.{Planned}

abbrev pub is_fast : Tier3 → Bool
is_fast Fast = true
is_fast Near = false
is_fast Far = false

abbrev pub is_near : Tier3 → Bool
is_near Fast = false
is_near Near = true
is_near Far = false

-- sections in the order of their tiers
abbrev pub AreInTiers : List (Tier3 × ℕ) → Type 0
AreInTiers [] = Unit {0}
AreInTiers (s ∷ []) = Unit {0}
AreInTiers (s ∷ t ∷ ss) = (tier_rank s.0 ≤ tier_rank t.0) × AreInTiers (t ∷ ss)

-- they are numbered by their places
abbrev pub planned : List (Tier3 × ℕ) → ℕ → Planned
planned sections quota = record {
  fasts = count_by (λ s. is_fast s.0) sections;
  nears = count_by (λ s. is_near s.0) sections;
  fars = length sections - (count_by (λ s. is_fast s.0) sections + count_by (λ s. is_near s.0) sections);
  size = slice_index (map (λ s. s.1) sections);
  quota = quota;
}
