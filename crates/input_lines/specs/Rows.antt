-- Worked rows of the definitions.
use Rattle.std.specs.Prelude.{◌≡◌, [], ◌∷◌, ◌++◌, replicate, Some, None, true, false, refl, codes}
use Rattle.std.specs.Str.{chars, is_utf8}
use Rattle.csv.specs.Machine.{next_record}
use Rattle.csv.specs.Reading.{strip_bom}
use Rattle.input_lines.specs.Fields.{record_of, is_line}
use Rattle.input_lines.specs.Numbers.{number_in, numeral_of, is_word}
use Rattle.input_lines.specs.Lines.{record_lines}
use Rattle.input_lines.specs.Going.{shown_whole}

-- fields are parted by commas; a quoted field is its text, with commas and doubled quotes
plain_fields : record_of (codes "stream,1,,2") ≡ Some (codes "stream" ∷ codes "1" ∷ [] ∷ codes "2" ∷ [])
unfolding chars is_utf8 lib.Utf8.encode next_record strip_bom
plain_fields = refl

quoted_fields : record_of (codes "\"end\",\"a,\"\"b\"\"\"") ≡ Some (codes "end" ∷ codes "a,\"b\"" ∷ [])
unfolding chars is_utf8 lib.Utf8.encode next_record strip_bom
quoted_fields = refl

-- an unclosed quote ends with the line
open_quote : record_of (codes "\"a,b") ≡ Some (codes "a,b" ∷ [])
unfolding chars is_utf8 lib.Utf8.encode next_record strip_bom
open_quote = refl

-- a byte order mark goes off the front; alone it is a line without fields
marked_fields : record_of (0xEF ∷ 0xBB ∷ 0xBF ∷ codes "end") ≡ Some (codes "end" ∷ [])
unfolding chars is_utf8 lib.Utf8.encode next_record strip_bom
marked_fields = refl

mark_alone : record_of (0xEF ∷ 0xBB ∷ 0xBF ∷ []) ≡ Some []
unfolding chars is_utf8 lib.Utf8.encode next_record strip_bom
mark_alone = refl

no_byte : record_of [] ≡ Some []
unfolding chars is_utf8 lib.Utf8.encode next_record strip_bom
no_byte = refl

-- é in UTF-8, half of it, a tab, a delete, U+E080
accent : record_of (codes "a,b" ++ 0xC3 ∷ 0xA9 ∷ []) ≡ Some (codes "a" ∷ (codes "b" ++ 0xC3 ∷ 0xA9 ∷ []) ∷ [])
unfolding chars is_utf8 lib.Utf8.encode next_record strip_bom
accent = refl

half_accent : record_of (codes "a,b" ++ 0xC3 ∷ []) ≡ None
unfolding chars is_utf8 lib.Utf8.encode next_record strip_bom
half_accent = refl

tab : record_of (codes "a" ++ 9 ∷ codes "b") ≡ None
unfolding chars is_utf8 lib.Utf8.encode next_record strip_bom
tab = refl

delete : record_of (codes "a" ++ 127 ∷ []) ≡ None
unfolding chars is_utf8 lib.Utf8.encode next_record strip_bom
delete = refl

private_control : record_of (0xEE ∷ 0x82 ∷ 0x80 ∷ []) ≡ None
unfolding chars is_utf8 lib.Utf8.encode next_record strip_bom
private_control = refl

-- lines of 16,384 and of 16,385 bytes
longest : is_line (replicate 16384 97) ≡ true
unfolding chars is_utf8 lib.Utf8.encode next_record strip_bom
longest = refl

too_long : is_line (replicate 16385 97) ≡ false
unfolding chars is_utf8 lib.Utf8.encode next_record strip_bom
too_long = refl

-- numbers of one to nine digits
zeros : numeral_of (codes "000000040") ≡ Some 40
zeros = refl

nine_digits : numeral_of (codes "999999999") ≡ Some 999999999
nine_digits = refl

ten_digits : numeral_of (codes "0000000040") ≡ None
ten_digits = refl

no_digit : numeral_of [] ≡ None
no_digit = refl

signed : numeral_of (codes "+4") ≡ None
signed = refl

in_range : number_in 1 16 (codes "16") ≡ Some 16
in_range = refl

above : number_in 1 16 (codes "17") ≡ None
above = refl

below : number_in 1 16 (codes "0") ≡ None
below = refl

word : is_word (codes "end") (codes "end") ≡ true
word = refl

other_word : is_word (codes "end") (codes "END") ≡ false
other_word = refl

-- an empty line and one with # are passed over and counted; one with a space or a mark in front is not
some_records : record_lines 1 ([] ∷ codes "a" ∷ codes "#b" ∷ codes " " ∷ (0xEF ∷ 0xBB ∷ 0xBF ∷ codes "#c") ∷ []) ≡ (2, codes "a") ∷ (4, codes " ") ∷ (5, 0xEF ∷ 0xBB ∷ 0xBF ∷ codes "#c") ∷ []
some_records = refl

no_records : record_lines 7 (codes "#" ∷ [] ∷ []) ≡ []
no_records = refl

-- of the bytes `a CR LF b` one line is whole
one_whole : shown_whole (97 ∷ 13 ∷ 10 ∷ 98 ∷ []) ≡ codes "a" ∷ []
one_whole = refl
