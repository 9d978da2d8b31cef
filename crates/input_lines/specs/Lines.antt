-- The lines that are records: all but those that are passed over.
use Rattle.std.specs.Prelude.{ℕ, ◌+◌, ◌==◌, Bool, true, List, [], ◌∷◌, if◌then◌else◌}
use Rattle.si_causes.specs.Reading.{Reading, room}
use Rattle.si_causes.specs.Text.{TextEnd, lines_left}

-- an empty line, and one that begins with #
abbrev pub is_passed : List ℕ → Bool
is_passed [] = true
is_passed (b ∷ bs) = b == 35

-- the lines that are not passed over, each with its number, where the first line has number n
abbrev pub record_lines : ℕ → List (List ℕ) → List (ℕ × List ℕ)
record_lines n [] = []
record_lines n (line ∷ lines) = if is_passed line then record_lines (n + 1) lines else (n, line) ∷ record_lines (n + 1) lines

-- lines, and how their text ends
abbrev pub Lines : Type 0
Lines = List (List ℕ) × TextEnd

-- the lines that a reader has still to give of this text
abbrev pub lines_of : {S : Type 0} → Reading S → List ℕ → Lines
lines_of reader text = lines_left (room reader) text
