-- What is still to come of a list with leads, as a cursor knows it.
use Rattle.std.specs.Prelude.{ℕ, ◌-◌, List, [], ◌∷◌, ◌++◌, if◌then◌else◌, nat_le}
use Rattle.section_codec.specs.Contents.{numbers_from}

-- the numbers from a up to b
abbrev pub upto : ℕ → ℕ → List ℕ
upto a b = numbers_from a (b - a)

-- a list with `lead` put in before each part of it but the first, which wants so many packets still
abbrev pub threaded : (ℕ → ℕ) → List ℕ → ℕ → ℕ → List ℕ → List ℕ
threaded size lead least wanted [] = []
threaded size lead least wanted (x ∷ []) = x ∷ []
threaded size lead least wanted (x ∷ y ∷ xs) =
    x ∷ (
    if nat_le wanted (size x) then lead ++ threaded size lead least least (y ∷ xs)
    else threaded size lead least (wanted - size x) (y ∷ xs)
    )

-- the body that is still to come, and the packets of each section
pub record Rest : Type 0 where
  pub items : List ℕ
  pub sizes : List ℕ
