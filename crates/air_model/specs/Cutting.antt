-- A list of sections cut from its front, by the packets that they have. A section is named by a number.
use Rattle.std.specs.Prelude.{◌≡◌, ℕ, ◌+◌, ◌-◌, ◌<◌, ◌≤◌, List, [], ◌∷◌, ◌++◌, if◌then◌else◌, nat_le, flat_map}

-- the packets of these sections together, where each has `size` of them
abbrev pub packets_in : (ℕ → ℕ) → List ℕ → ℕ
packets_in size [] = 0
packets_in size (x ∷ xs) = size x + packets_in size xs

-- a section in front of the first part
abbrev pub in_front : ℕ → List (List ℕ) → List (List ℕ)
in_front x [] = (x ∷ []) ∷ []
in_front x (part ∷ parts) = (x ∷ part) ∷ parts

-- a list cut from its front: the first part takes sections until they have `wanted` packets or more, each other one until they have
-- `least`, or the list is used up
abbrev pub cut_from : (ℕ → ℕ) → ℕ → ℕ → List ℕ → List (List ℕ)
cut_from size least wanted [] = []
cut_from size least wanted (x ∷ xs) =
    if nat_le wanted (size x) then (x ∷ []) ∷ cut_from size least least xs
    else in_front x (cut_from size least (wanted - size x) xs)

abbrev pub cut : (ℕ → ℕ) → ℕ → List ℕ → List (List ℕ)
cut size least xs = cut_from size least least xs

-- these parts, one behind the other
abbrev pub joined : List (List ℕ) → List ℕ
joined parts = flat_map (λ (part : List ℕ). part) parts

-- ---- the rule of a cut

-- A part's sections without its last are not enough,
pub record IsPart (size : ℕ → ℕ) (wanted : ℕ) (part : List ℕ) : Type 0 where
  pub front : List ℕ
  pub last : ℕ
  pub are : part ≡ front ++ last ∷ []
  pub below : packets_in size front < wanted

-- and where another part follows they are, with the last.
abbrev pub AreParts : (ℕ → ℕ) → ℕ → ℕ → List (List ℕ) → Type 0
AreParts size least wanted [] = Unit {0}
AreParts size least wanted (part ∷ []) = IsPart size wanted part × Unit {0}
AreParts size least wanted (part ∷ next ∷ parts) =
    IsPart size wanted part × (wanted ≤ packets_in size part) × AreParts size least least (next ∷ parts)

pub record IsCut (size : ℕ → ℕ) (least : ℕ) (xs : List ℕ) (parts : List (List ℕ)) : Type 0 where
  pub joined_are : joined parts ≡ xs
  pub each : AreParts size least least parts

-- A cut keeps the rule, and is the only one that does.
pub record IsOnlyCut (size : ℕ → ℕ) (least : ℕ) (xs : List ℕ) : Type 0 where
  pub is_cut : IsCut size least xs (cut size least xs)
  pub only : (parts : List (List ℕ)) → IsCut size least xs parts → parts ≡ cut size least xs

abbrev pub CutsAreUnique : Type 0
CutsAreUnique = (size : ℕ → ℕ) (least : ℕ) (xs : List ℕ) → 0 < least → IsOnlyCut size least xs
