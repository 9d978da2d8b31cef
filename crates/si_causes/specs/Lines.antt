-- The lines of a text: a line ends with LF (10) or with the end of the text, and one CR (13) before that end is not part of it.
use Rattle.std.specs.Prelude.{ℕ, ◌-◌, ◌==◌, Bool, false, ◌||◌, List, [], ◌∷◌, length, take, slice_index, if◌then◌else◌}

-- what stands before the first LF, or all
abbrev pub first_line : List ℕ → List ℕ
first_line [] = []
first_line (b ∷ bs) = if b == 10 then [] else b ∷ first_line bs

-- what stands after the first LF, or nothing
abbrev pub after_line : List ℕ → List ℕ
after_line [] = []
after_line (b ∷ bs) = if b == 10 then bs else after_line bs

-- whether there is an LF
abbrev pub has_end : List ℕ → Bool
has_end [] = false
has_end (b ∷ bs) = b == 10 || has_end bs

-- a line without the one CR at its end
abbrev pub without_cr : List ℕ → List ℕ
without_cr raw = if slice_index raw (length raw - 1) == 13 then take (length raw - 1) raw else raw

-- what a reader shows of a line: of one that is longer than 16,384 bytes, the first 16,385
abbrev pub shown : List ℕ → List ℕ
shown raw = take 16385 (without_cr raw)

-- a byte before the lines of what follows it
abbrev pub onto : ℕ → List (List ℕ) → List (List ℕ)
onto b [] = (b ∷ []) ∷ []
onto b (line ∷ lines) = (b ∷ line) ∷ lines

-- the lines of a text, each without its LF; behind an LF at the end there is no further line
abbrev pub raw_lines : List ℕ → List (List ℕ)
raw_lines [] = []
raw_lines (b ∷ bs) = if b == 10 then [] ∷ raw_lines bs else onto b (raw_lines bs)

-- a byte before the first of these lines, if there is one
abbrev pub onto_whole : ℕ → List (List ℕ) → List (List ℕ)
onto_whole b [] = []
onto_whole b (line ∷ lines) = (b ∷ line) ∷ lines

-- the lines that end with an LF
abbrev pub whole_lines : List ℕ → List (List ℕ)
whole_lines [] = []
whole_lines (b ∷ bs) = if b == 10 then [] ∷ whole_lines bs else onto_whole b (whole_lines bs)
