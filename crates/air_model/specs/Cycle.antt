-- The order of the sections in one cycle, by the tiers of TR 101 211, 4.4. Sections are numbered from 0 on: those of tier Fast, then
-- Near, then Far.
use Rattle.std.specs.Prelude.{ℕ, ◌+◌, List, [], ◌∷◌, ◌++◌, flat_map}
use Rattle.section_codec.specs.Contents.{numbers_from}
use Rattle.air_model.specs.Cutting.{packets_in, cut}

-- what is planned: how many sections each tier has, the packets of the section with a number, and the quota
pub record Planned : Type 0 where
  pub fasts : ℕ
  pub nears : ℕ
  pub fars : ℕ
  pub size : ℕ → ℕ
  pub quota : ℕ

abbrev pub fast_of : Planned → List ℕ
fast_of p = numbers_from 0 p.fasts

abbrev pub near_of : Planned → List ℕ
near_of p = numbers_from p.fasts p.nears

abbrev pub far_of : Planned → List ℕ
far_of p = numbers_from (p.fasts + p.nears) p.fars

-- these parts, or one empty part where there is none
abbrev pub at_least_one : List (List ℕ) → List (List ℕ)
at_least_one [] = [] ∷ []
at_least_one (part ∷ parts) = part ∷ parts

-- each part with `lead` in front of it
abbrev pub led : List ℕ → List (List ℕ) → List ℕ
led lead parts = flat_map (λ (part : List ℕ). lead ++ part) parts

-- 1. Far is cut from its front into chunks, each but the last with the packets of Near or more; without Far there is one empty chunk.
abbrev pub chunks_of : Planned → List (List ℕ)
chunks_of p = at_least_one (cut p.size (packets_in p.size (near_of p)) (far_of p))

-- 2. The body is, for each chunk, all Near sections and then the chunk.
abbrev pub body_of : Planned → List ℕ
body_of p = led (near_of p) (chunks_of p)

-- 3. The body is cut from its front into runs, each but the last with the packets of the quota or more; without a body there is one
-- empty run.
abbrev pub runs_of : Planned → List (List ℕ)
runs_of p = at_least_one (cut p.size p.quota (body_of p))

-- 4. The cycle is, for each run, all Fast sections and then the run.
abbrev pub cycle_of : Planned → List ℕ
cycle_of p = led (fast_of p) (runs_of p)
