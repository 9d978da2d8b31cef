-- Worked examples.
use Rattle.std.specs.Prelude.{◌≡◌, ℕ, zero, suc, true, false, List, [], ◌∷◌, ◌++◌, map, length, replicate, refl, codes}
use Rattle.std.specs.Str.{chars, is_utf8}
use Rattle.guide_model.specs.Coding.{coded_text, coded_size}
use Rattle.guide_model.specs.Control.{has_control, is_control}
use Rattle.guide_model.specs.Cutting.{greatest_cut, cut_size, first_pieces, pieces}
use Rattle.guide_model.specs.Decoding.{decoded}
use Rattle.guide_model.specs.declared.shown.Shown.TheVariants.{Text, Hex}

row_plain : coded_text (codes "News") ≡ codes "News"
row_plain = refl

row_size : coded_size (codes "News") ≡ 4
row_size = refl

-- é is C3 A9
row_utf8 : coded_text (0xC3 ∷ 0xA9 ∷ []) ≡ 0x15 ∷ 0xC3 ∷ 0xA9 ∷ []
row_utf8 = refl

row_empty : coded_text [] ≡ []
row_empty = refl

-- an underscore is not of the plain set
row_underscore : coded_text (codes "a_b") ≡ 0x15 ∷ codes "a_b"
row_underscore = refl

-- é, so many times
accents : ℕ → List ℕ
accents zero = []
accents (suc n) = 0xC3 ∷ 0xA9 ∷ accents n

-- a name of 49 é and one a
row_hundred : coded_size (accents 49 ++ codes "a") ≡ 100
unfolding accents
row_hundred = refl

-- U+0085, U+00A0 and U+E080, as UTF-8
row_next_line : has_control (0x4E ∷ 0xC2 ∷ 0x85 ∷ []) ≡ true
unfolding chars
row_next_line = refl

row_no_break : has_control (0xC2 ∷ 0xA0 ∷ []) ≡ false
unfolding chars
row_no_break = refl

row_private : has_control (0xEE ∷ 0x82 ∷ 0x80 ∷ []) ≡ true
unfolding chars
row_private = refl

row_last_private : is_control 0xE09F ≡ true
row_last_private = refl

row_behind_private : is_control 0xE0A0 ≡ false
row_behind_private = refl

-- 0xA4 is not of the plain set
row_hex : decoded (0xA4 ∷ []) ≡ Hex (0xA4 ∷ [])
row_hex = refl

row_no_byte : decoded [] ≡ Text []
unfolding chars
row_no_byte = refl

row_alone : decoded (0x15 ∷ []) ≡ Text []
unfolding chars is_utf8
row_alone = refl

row_accent : decoded (0x15 ∷ 0xC3 ∷ 0xA9 ∷ []) ≡ Text (0xC3 ∷ 0xA9 ∷ [])
unfolding chars is_utf8 lib.Utf8.encode
row_accent = refl

-- a character that breaks off
row_broken : decoded (0x15 ∷ 0x61 ∷ 0xC3 ∷ []) ≡ Hex (0x15 ∷ 0x61 ∷ 0xC3 ∷ [])
unfolding chars is_utf8 lib.Utf8.encode
row_broken = refl

-- U+0085
row_hidden : decoded (0x15 ∷ 0xC2 ∷ 0x85 ∷ []) ≡ Hex (0x15 ∷ 0xC2 ∷ 0x85 ∷ [])
unfolding chars is_utf8 lib.Utf8.encode
row_hidden = refl

-- plain text, and the same with an é in UTF-8 and no 0x15 before it
row_shown : decoded (codes "News") ≡ Text (codes "News")
unfolding chars
row_shown = refl

row_unmarked : decoded (codes "Caf" ++ 0xC3 ∷ 0xA9 ∷ []) ≡ Hex (codes "Caf" ++ 0xC3 ∷ 0xA9 ∷ [])
row_unmarked = refl

row_pieces : map length (pieces (replicate 1000 97)) ≡ 249 ∷ 249 ∷ 249 ∷ 249 ∷ 4 ∷ []
unfolding greatest_cut cut_size first_pieces pieces
row_pieces = refl

-- 124 é have 248 bytes, and 0x15 is before them
row_accents : map length (pieces (accents 125)) ≡ 248 ∷ 2 ∷ []
unfolding accents greatest_cut cut_size first_pieces pieces
row_accents = refl

-- behind 247 a there is no room for an é and 0x15
row_seam : map length (pieces (replicate 247 97 ++ accents 1)) ≡ 247 ∷ 2 ∷ []
unfolding accents greatest_cut cut_size first_pieces pieces
row_seam = refl

row_nothing : pieces [] ≡ []
unfolding first_pieces pieces
row_nothing = refl
