-- The characters that no kept text has.
use Rattle.std.specs.Prelude.{ℕ, Bool, ◌||◌, ◌&&◌, nat_lt, nat_le, List}
use Rattle.std.specs.List.{list_all, list_any}
use Rattle.std.specs.Str.{chars}

-- U+0000 to U+001F, U+007F to U+009F and U+E080 to U+E09F
abbrev pub is_control : ℕ → Bool
is_control c = nat_lt c 32 || (nat_le 127 c && nat_lt c 160) || (nat_le 0xE080 c && nat_lt c 0xE0A0)

-- whether one of the characters that these bytes spell is one
abbrev pub has_control : List ℕ → Bool
has_control text = list_any is_control (chars text)

-- a printing character of ASCII, which is none of them
abbrev pub is_printing : ℕ → Bool
is_printing b = nat_le 32 b && nat_le b 126

abbrev pub all_printing : List ℕ → Bool
all_printing text = list_all is_printing text
