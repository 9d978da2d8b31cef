-- The fields of an input line, by the words of csv.
use Rattle.std.specs.Prelude.{◌≡◌, ◌≤◌, true, ℕ, ◌==◌, Bool, ◌&&◌, not, nat_le, List, [], length, slice_index, Option, Some, None, if◌then◌else◌}
use Rattle.std.specs.List.{list_any, slice_split}
use Rattle.std.specs.Str.{chars, is_utf8}
use Rattle.csv.specs.Machine.{Read}
unfoldable pub use Rattle.csv.specs.Machine.{next_record}
use Rattle.csv.specs.Reading.{default_config}
unfoldable pub use Rattle.csv.specs.Reading.{strip_bom}
use Rattle.csv.specs.declared.parser.State.TheVariants.{StartRecord}
use Rattle.guide_model.specs.Coding.{all_plain}
use Rattle.guide_model.specs.Control.{has_control}
use Rattle.guide_model.specs.Decoding.{IsKept}

abbrev pub fields_or_none : Option Read → List (List ℕ)
fields_or_none None = []
fields_or_none (Some read) = read.0

-- the fields of the one record that csv reads of the line, behind a byte order mark; a line of which it makes no record has none
abbrev pub line_fields : List ℕ → List (List ℕ)
line_fields line = fields_or_none (next_record default_config StartRecord [] [] (strip_bom line))

-- the parts between the commas of a line
abbrev pub comma_parts : List ℕ → List (List ℕ)
comma_parts line = slice_split (λ b. b == 44) line

-- all its characters are of the plain set
abbrev pub IsPlain : List ℕ → Type 0
IsPlain text = all_plain text ≡ true

abbrev pub has_quote : List ℕ → Bool
has_quote line = list_any (λ b. b == 34) line

-- no double quote stands in the line, and it has a first byte, which is not that of a byte order mark
abbrev pub is_bare : List ℕ → Bool
is_bare line = not (length line == 0) && (not (slice_index line 0 == 0xEF) && not (has_quote line))

-- a line that may be a record: of at most 16,384 bytes, UTF-8, without a control character
pub record IsLine (line : List ℕ) : Type 0 where
  pub short : length line ≤ 16384
  pub kept : IsKept line

abbrev pub is_line : List ℕ → Bool
is_line line = nat_le (length line) 16384 && (is_utf8 line && not (has_control line))

-- the fields of such a line
abbrev pub record_of : List ℕ → Option (List (List ℕ))
record_of line = if is_line line then Some (line_fields line) else None

-- a theorem whose `unfolding` line names this computes the fields of a line
unfoldable pub fields_compute : Type 0
unfolding chars is_utf8 lib.Utf8.encode next_record strip_bom
fields_compute = Unit {0}
