-- A report that is written as a script is played: entries, and comments on lines passed over.
use Rattle.std.specs.Prelude.{ℕ, Bool, true, false, ◌++◌, List, Option, Some, None, codes, decimal, flat_map, filter_map}
use Rattle.journal_model.specs.declared.step.Entry.{Entry}
use Rattle.journal_text.specs.Back.{IsOfLines, IsReadable}
use Rattle.journal_text.specs.Entries.{entry_text}
use Rattle.script_notes.specs.declared.why.Why.{Why}
use Rattle.script_notes.specs.Whys.{CanBeSaid, why_text}
use Rattle.script_notes.specs.Whole.{up_to_last, with_end}

-- a piece of the report: an entry, or a comment on the line with this number
pub data Piece : Type 0 where
  Entered : Entry → Piece
  Noted : ℕ → Why → Piece

-- a comment: a line that begins with `#`, so that readers pass over it
abbrev pub comment_line : ℕ → Why → List ℕ
comment_line n why = codes "# line " ++ (decimal n ++ (codes ": " ++ why_text why))

abbrev pub piece_text : Piece → List ℕ
piece_text (Entered entry) = entry_text entry
piece_text (Noted n why) = with_end (comment_line n why)

abbrev pub pieces_text : List Piece → List ℕ
pieces_text pieces = flat_map piece_text pieces

-- ---- the entries among them

abbrev pub is_entry : Piece → Bool
is_entry (Entered entry) = true
is_entry (Noted n why) = false

abbrev pub entry_in : Piece → Option Entry
entry_in (Entered entry) = Some entry
entry_in (Noted n why) = None

abbrev pub entries_in : List Piece → List Entry
entries_in pieces = filter_map entry_in pieces

-- the pieces up to the last entry
abbrev pub up_to_entry : List Piece → List Piece
up_to_entry pieces = up_to_last is_entry pieces

-- ---- what can be written, and what can be read again

-- the edit of an entry was read from lines, and the moments in a comment can be written
abbrev pub IsPieceOfLines : Piece → Type 0
IsPieceOfLines (Entered entry) = IsOfLines entry
IsPieceOfLines (Noted n why) = CanBeSaid why

-- the same, of an entry that can be read again
abbrev pub IsReadablePiece : Piece → Type 0
IsReadablePiece (Entered entry) = IsReadable entry
IsReadablePiece (Noted n why) = CanBeSaid why
