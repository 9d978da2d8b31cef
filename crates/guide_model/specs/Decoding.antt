-- What the bytes of a coded text are shown as (EN 300 468, annex A).
use Rattle.std.specs.Prelude.{◌≡◌, ℕ, false, ◌==◌, List, [], ◌∷◌, if◌then◌else◌, IsUtf8, Option, Some, None}
use Rattle.std.specs.Str.{is_utf8}
use Rattle.guide_model.specs.Control.{has_control}
use Rattle.guide_model.specs.Coding.{all_plain, coded_text}
use Rattle.guide_model.specs.declared.shown.Shown.{Shown}
use Rattle.guide_model.specs.declared.shown.Shown.TheVariants.{Text, Hex}

-- the text that these bytes are a form of: UTF-8 behind 0x15, or characters of the plain set
abbrev pub text_in : List ℕ → Option (List ℕ)
text_in [] = Some []
text_in (b ∷ bytes) =
    if b == 0x15 then (if is_utf8 bytes then Some bytes else None)
    else (if all_plain (b ∷ bytes) then Some (b ∷ bytes) else None)

-- the text where there is one and it has no control character, else all the bytes
abbrev pub shown_by : Option (List ℕ) → List ℕ → Shown
shown_by (Some text) bytes = if has_control text then Hex bytes else Text text
shown_by None bytes = Hex bytes

-- what bytes are shown as
abbrev pub decoded : List ℕ → Shown
decoded bytes = shown_by (text_in bytes) bytes

-- the bytes of what is shown: those that a text is coded as, or all of Hex
abbrev pub shown_bytes : Shown → List ℕ
shown_bytes (Text text) = coded_text text
shown_bytes (Hex bytes) = bytes

-- it is what its own bytes are shown as
abbrev pub IsAsDecoded : Shown → Type 0
IsAsDecoded shown = decoded (shown_bytes shown) ≡ shown

-- a text that may be kept: UTF-8 without a control character
pub record IsKept (text : List ℕ) : Type 0 where
  pub utf8 : IsUtf8 text
  pub clean : has_control text ≡ false
