-- What is whole of a text that may be cut anywhere.
use Rattle.std.specs.Prelude.{◌==◌, ℕ, Bool, false, List, [], ◌∷◌, ◌++◌, flat_map, if◌then◌else◌}
use Rattle.std.specs.List.{list_any}
use Rattle.si_causes.specs.Lines.{whole_lines}

-- a line with its LF (10)
abbrev pub with_end : List ℕ → List ℕ
with_end line = line ++ 10 ∷ []

-- the line of an outcome begins with `=` (61)
abbrev pub begins_outcome : List ℕ → Bool
begins_outcome [] = false
begins_outcome (b ∷ bs) = b == 61

-- those up to the last that passes the test; none where none passes
abbrev pub up_to_last : {A : Type 0} → (A → Bool) → List A → List A
up_to_last test [] = []
up_to_last test (x ∷ xs) = if list_any test (x ∷ xs) then x ∷ up_to_last test xs else []

-- The whole entries of a text: its lines that end with LF, up to the last that begins with `=`.
abbrev pub whole_entries : List ℕ → List ℕ
whole_entries text = flat_map with_end (up_to_last begins_outcome (whole_lines text))
