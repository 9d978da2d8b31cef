-- The lines of a text that may have only so many bytes, as a reader shows them, and how they end.
use Rattle.std.specs.Prelude.{ℕ, nat_le, List, length, take, map, if◌then◌else◌}
use Rattle.si_causes.specs.Lines.{raw_lines, whole_lines, shown}

-- how a text stops: at its end, or with a byte past the last one that it may have
pub data TextEnd : Type 0 where
  AtEnd : TextEnd
  PastLimit : TextEnd

-- how many bytes a text may have where no other limit is named
abbrev pub text_limit : ℕ
text_limit = 67108864

-- The lines of a text of which n bytes may be taken. Of a text with more bytes these are the lines
-- that end with an LF within the first n.
abbrev pub lines_in : ℕ → List ℕ → List (List ℕ)
lines_in n text = if nat_le (length text) n then raw_lines text else whole_lines (take n text)

-- how such a text stops
abbrev pub end_in : ℕ → List ℕ → TextEnd
end_in n text = if nat_le (length text) n then AtEnd else PastLimit

-- the lines as they are shown, and then the stop
abbrev pub lines_left : ℕ → List ℕ → List (List ℕ) × TextEnd
lines_left n text = (map shown (lines_in n text), end_in n text)

-- the lines of a whole text
abbrev pub text_lines : List ℕ → List (List ℕ) × TextEnd
text_lines text = lines_left text_limit text
