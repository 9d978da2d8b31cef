-- The fields of a printed guide.
use Rattle.std.specs.Prelude.{ℕ, ◌*◌, ◌++◌, List, [], codes, if◌then◌else◌, nat_lt, Option, Some, None}
use Rattle.std.specs.Char.{is_ascii_alphabetic}
use Rattle.std.specs.List.{list_all}
use Rattle.hex.specs.Hex.{encode_lower}
use Rattle.si_time.specs.Moments.{moment_text, duration_text}
use Rattle.guide_model.specs.declared.shown.Shown.{Shown}
use Rattle.guide_model.specs.declared.shown.Shown.TheVariants.{Text, Hex}

-- bytes, each as two lower-case hexadecimal digits
abbrev pub hex_text : List ℕ → List ℕ
hex_text bytes = codes "hex:" ++ encode_lower bytes

-- a text as it is, and bytes that are no text
abbrev pub shown_text : Shown → List ℕ
shown_text (Text text) = text
shown_text (Hex bytes) = hex_text bytes

-- a three-byte code, as it is where it is of letters
abbrev pub code_text : List ℕ → List ℕ
code_text code = if list_all is_ascii_alphabetic code then code else hex_text code

-- YYYY-MM-DDThh:mm:ssZ of a moment that 16 bits of days can say (EN 300 468, annex C)
abbrev pub moment_field : ℕ → List ℕ
moment_field at = if nat_lt at (65536 * 86400) then moment_text at else []

-- hh:mm:ss of a duration below 100 hours
abbrev pub duration_field : ℕ → List ℕ
duration_field seconds = if nat_lt seconds 360000 then duration_text seconds else []

-- what is missing is written as nothing
abbrev pub optional : {A : Type 0} → (A → List ℕ) → Option A → List ℕ
optional text None = []
optional text (Some a) = text a
