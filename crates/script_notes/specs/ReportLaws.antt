-- Laws of whole entries.
use Rattle.std.specs.Prelude.{◌≡◌, ◌⊎◌, ◌<◌, ℕ, true, false, List, [], ◌∷◌, ◌++◌, length, take, flat_map}
use Rattle.std.specs.List.{AllByRecursion, list_any}
use Rattle.si_causes.specs.Lines.{has_end, whole_lines}
use Rattle.script_notes.specs.Pieces.{IsPieceOfLines, Piece, pieces_text, up_to_entry}
use Rattle.script_notes.specs.Whole.{begins_outcome, whole_entries, with_end}

-- ---- of any text

-- The text ends with LF, and its last line begins with `=`.
pub record EndsWithOutcome (text : List ℕ) : Type 0 where
  pub lines : List (List ℕ)
  pub last : List ℕ
  pub text_is : text ≡ flat_map with_end (lines ++ last ∷ [])
  pub one_each : AllByRecursion (λ (line : List ℕ). has_end line ≡ false) (lines ++ last ∷ [])
  pub outcome : begins_outcome last ≡ true

-- The whole entries of a text are its longest front that ends so; and nothing, where none does.
pub record IsLongest (text whole : List ℕ) : Type 0 where
  pub front : (behind : List ℕ) × (text ≡ whole ++ behind)
  pub ends : (whole ≡ []) ⊎ EndsWithOutcome whole
  pub longest : (other behind : List ℕ) → text ≡ other ++ behind → EndsWithOutcome other
      → (more : List ℕ) × (whole ≡ other ++ more)

abbrev pub WholeEntriesAreLongest : Type 0
WholeEntriesAreLongest = (text : List ℕ) → IsLongest text (whole_entries text)

-- ---- of a report

-- no whole line of the text begins with `=`
abbrev pub HasNoOutcome : List ℕ → Type 0
HasNoOutcome text = list_any begins_outcome (whole_lines text) ≡ false

-- the first bytes of the next piece, and not all
pub record IsCutOf (next : List Piece) (part : List ℕ) : Type 0 where
  pub cut : ℕ
  pub part_is : part ≡ take cut (pieces_text (take 1 next))
  pub short : 0 < cut → cut < length (pieces_text (take 1 next))

-- What may stand after whole pieces: a proper front of the next one, or a front of what a run
-- prints at its end, which has no outcome.
abbrev pub IsCutOrEnd : List Piece → List ℕ → Type 0
IsCutOrEnd next part = IsCutOf next part ⊎ HasNoOutcome part

-- What is whole of a report that was cut anywhere is the text of its whole pieces, up to the last
-- entry.
abbrev pub WholeEntriesAreKept : Type 0
WholeEntriesAreKept =
    (pieces next : List Piece) (part : List ℕ)
    → AllByRecursion IsPieceOfLines pieces → AllByRecursion IsPieceOfLines next
    → IsCutOrEnd next part
    → whole_entries (pieces_text pieces ++ part) ≡ pieces_text (up_to_entry pieces)
