-- Sections by their sub-tables, and in turns, step by step.
use Rattle.std.specs.Prelude.{ℕ, List, [], ◌∷◌, ◌++◌, Option, Some, None, slice_set, slice_index_or}

-- those of these groups that have a section
abbrev pub with_more : List (List ℕ) → List (List ℕ)
with_more [] = []
with_more ([] ∷ groups) = with_more groups
with_more ((x ∷ xs) ∷ groups) = (x ∷ xs) ∷ with_more groups

-- groups, and a section more in the group at a place, or in a new one
abbrev pub grouped : Option ℕ → List (List ℕ) → ℕ → List (List ℕ)
grouped None made x = made ++ (x ∷ []) ∷ []
grouped (Some slot) made x = slice_set made slot (slice_index_or made slot [] ++ x ∷ [])
