-- How far apart a cycle repeats its sections, in packets.
use Rattle.std.specs.Prelude.{◌≡◌, ℕ, ◌+◌, ◌*◌, ◌/◌, ◌<◌, ◌≤◌, List, [], ◌∷◌, ◌++◌}
use Rattle.std.specs.List.{AllByRecursion}
use Rattle.air_model.specs.Cutting.{packets_in}
use Rattle.air_model.specs.Cycle.{Planned, fast_of, near_of, cycle_of}
use Rattle.air_model.specs.Packing.{Start, starts_of_cycles, IsCounted, IsPacked}

-- no section of the list is x
abbrev pub Lacks : ℕ → List ℕ → Type 0
Lacks x xs = AllByRecursion (λ (y : ℕ). y ≡ x → Prim.⊥) xs

-- two starts of x with none between are at most `bound` packets apart
abbrev pub Spaced : ℕ → ℕ → List Start → Type 0
Spaced bound x starts =
    (before between after : List Start) (one two : Start) → starts ≡ before ++ one ∷ (between ++ two ∷ after)
    → one.section ≡ x → two.section ≡ x → AllByRecursion (λ (s : Start). s.section ≡ x → Prim.⊥) between
    → two.packet ≤ one.packet + bound

-- of a Fast section: all Fast packets, the quota, and 22
abbrev pub fast_bound : Planned → ℕ
fast_bound p = packets_in p.size (fast_of p) + p.quota + 22

-- of a Near section: the packets of Near and of a chunk, and those of Fast before each run of them
abbrev pub near_span : Planned → ℕ
near_span p = 2 * packets_in p.size (near_of p) + 23

abbrev pub near_bound : Planned → ℕ
near_bound p = near_span p + (near_span p / p.quota + 2) * packets_in p.size (fast_of p)

-- Fast and Near sections repeat within their bounds.
pub record AreSpaced (p : Planned) (starts : List Start) : Type 0 where
  pub fast : (x : ℕ) → x < p.fasts → Spaced (fast_bound p) x starts
  pub near : (x : ℕ) → p.fasts ≤ x → x < p.fasts + p.nears → Spaced (near_bound p) x starts

-- each section has 1 to 23 packets, and the quota is a packet or more
pub record IsWithinLimits (p : Planned) : Type 0 where
  pub sized : (i : ℕ) → i < p.fasts + p.nears + p.fars → (1 ≤ p.size i) × (p.size i ≤ 23)
  pub some_quota : 1 ≤ p.quota

-- Packed sections do so within a cycle, and from its end into a next cycle of the same sections: in two cycles, one behind the other,
-- whichever packet the first begins in;
abbrev pub CyclesAreSpaced : Type 0
CyclesAreSpaced = (p : Planned) → IsWithinLimits p → (pid len : ℕ → ℕ) → IsPacked p pid len → (n : ℕ)
    → AreSpaced p (starts_of_cycles pid len n (cycle_of p ∷ cycle_of p ∷ []))

-- and Near sections on any PIDs.
abbrev pub NearIsSpaced : Type 0
NearIsSpaced = (p : Planned) → IsWithinLimits p → (pid len : ℕ → ℕ) → IsCounted p len → (n x : ℕ) → p.fasts ≤ x → x < p.fasts + p.nears
    → Spaced (near_bound p) x (starts_of_cycles pid len n (cycle_of p ∷ cycle_of p ∷ []))
