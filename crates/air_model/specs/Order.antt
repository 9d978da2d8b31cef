-- Laws of the order of a cycle, in other words than its rules.
use Rattle.std.specs.Prelude.{◌≡◌, ℕ, ◌+◌, ◌<◌, nat_le}
use Rattle.std.specs.List.{AllByRecursion, Contains, filter}
use Rattle.air_model.specs.Cycle.{Planned, far_of, body_of, cycle_of}

pub record IsWhole (p : Planned) : Type 0 where
  -- each section that is planned stands in the cycle,
  pub each : (i : ℕ) → i < p.fasts + p.nears + p.fars → Contains (cycle_of p) i
  -- and no other
  pub known : AllByRecursion (λ (i : ℕ). i < p.fasts + p.nears + p.fars) (cycle_of p)
  -- without its Fast sections the cycle is the body
  pub body : filter (λ i. nat_le p.fasts i) (cycle_of p) ≡ body_of p
  -- its Far sections are all of Far, once, in their order
  pub far : filter (λ i. nat_le (p.fasts + p.nears) i) (cycle_of p) ≡ far_of p

abbrev pub CyclesAreWhole : Type 0
CyclesAreWhole = (p : Planned) → IsWhole p
