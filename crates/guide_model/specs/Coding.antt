-- How a text is coded (EN 300 468, annex A): text of a plain set of characters as it is, other text as UTF-8
-- behind the byte 0x15.
use Rattle.std.specs.Prelude.{ℕ, ◌+◌, Bool, ◌||◌, ◌&&◌, ◌==◌, nat_le, List, ◌∷◌, length, if◌then◌else◌}
use Rattle.std.specs.List.{list_all}

-- A to Z, a to z, 0 to 9, space and . , : ; ! ? ' " ( ) - / & % + *
abbrev pub is_plain : ℕ → Bool
is_plain b =
    (nat_le 65 b && nat_le b 90) || (nat_le 97 b && nat_le b 122) || (nat_le 48 b && nat_le b 57)
    || b == 32 || b == 46 || b == 44 || b == 58 || b == 59 || b == 33 || b == 63 || b == 39 || b == 34
    || b == 40 || b == 41 || b == 45 || b == 47 || b == 38 || b == 37 || b == 43 || b == 42

abbrev pub all_plain : List ℕ → Bool
all_plain text = list_all is_plain text

-- the bytes that a text is coded as
abbrev pub coded_text : List ℕ → List ℕ
coded_text text = if all_plain text then text else 0x15 ∷ text

-- how many they are
abbrev pub coded_size : List ℕ → ℕ
coded_size text = if all_plain text then length text else 1 + length text
