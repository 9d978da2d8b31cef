-- Texts without a control character, character by character.
use Rattle.std.specs.Prelude.{◌≡◌, ℕ, Bool, true, not, ◌&&◌, List, [], ◌∷◌, ⊤, Option, Some, None}
use Rattle.std.specs.List.{list_all}
use Rattle.std.specs.Str.{encode_utf8_all}
use Rattle.csv.specs.Machine.{Read}
use Rattle.guide_model.specs.Control.{is_control}
use lib.Utf8.{scalar}

abbrev pub is_plain_char : ℕ → Bool
is_plain_char c = scalar c && not (is_control c)

-- the bytes spell characters, and none is a control character
abbrev pub IsClean : List ℕ → Type 0
IsClean bs = (cs : List ℕ) × (list_all is_plain_char cs ≡ true) × (encode_utf8_all cs ≡ bs)

abbrev pub AllClean : List (List ℕ) → Type 0
AllClean [] = ⊤
AllClean (f ∷ fs) = IsClean f × AllClean fs

abbrev pub RecordClean : Option Read → Type 0
RecordClean None = ⊤
RecordClean (Some p) = AllClean p.0
