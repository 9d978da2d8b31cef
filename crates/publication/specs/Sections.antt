-- Sections with their numbers, and sub-tables of one section.
use Rattle.std.specs.Prelude.{ℕ, ◌+◌, List, [], ◌∷◌}
use Rattle.section_codec.specs.declared.table.Key.{Key}
use Rattle.section_codec.specs.declared.table.NumberedBody.{NumberedBody}
use Rattle.section_codec.specs.declared.table.SubTable.{SubTable}
use Rattle.section_codec.specs.declared.table.Tier3.TheVariants.{Fast}

-- the sub-table of this key whose one section, with section_number 0, has this body; a cycle repeats it most often
abbrev pub single_table : Key → List ℕ → SubTable
single_table key body = record { key = key; tier = Fast; sections = record { number = 0; body = body } ∷ [] }

-- bodies with their section_numbers, from n on
abbrev pub numbered : ℕ → List (List ℕ) → List NumberedBody
numbered n [] = []
numbered n (body ∷ bodies) = record { number = n; body = body } ∷ numbered (1 + n) bodies
