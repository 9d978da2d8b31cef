use Rattle.std.proofs.Common.{◌≡◌, ◌-◌, ℕ, length, map}
use Rattle.std.specs.Prelude.{option_map}
use Rattle.ts_demux.specs.Keeping.{kept_on}
use Rattle.ts_demux.proofs.places.Places.make_places.Given as goal

-- what is kept stays
abbrev pub invariant-places : goal.invariant-places
invariant-places l = (q : ℕ) → kept_on q (map (option_map (λ slot. slot.value)) l.self-inside.slots.items) ≡ kept_on q l.fn.self

abbrev pub decreases-places : goal.decreases-places
decreases-places l = 8192 - length l.self-inside.slots.items
