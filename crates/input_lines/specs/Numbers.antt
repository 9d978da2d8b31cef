-- Words and numbers in fields.
use Rattle.std.specs.Prelude.{ℕ, ◌+◌, ◌-◌, ◌*◌, nat_le, Bool, ◌&&◌, List, [], ◌∷◌, length, Option, Some, None, if◌then◌else◌, bytes_eq}
use Rattle.std.specs.List.{list_all}

abbrev pub is_word : List ℕ → List ℕ → Bool
is_word word field = bytes_eq field word

abbrev pub is_digit : ℕ → Bool
is_digit b = nat_le 48 b && nat_le b 57

-- the value of these digits behind others
abbrev pub value_from : ℕ → List ℕ → ℕ
value_from n [] = n
value_from n (b ∷ bs) = value_from (10 * n + (b - 48)) bs

-- one to nine decimal digits
abbrev pub is_numeral : List ℕ → Bool
is_numeral field = list_all is_digit field && (nat_le 1 (length field) && nat_le (length field) 9)

-- the number that a field spells
abbrev pub numeral_of : List ℕ → Option ℕ
numeral_of field = if is_numeral field then Some (value_from 0 field) else None

-- a number in this range
abbrev pub in_range : ℕ → ℕ → ℕ → Bool
in_range low high n = nat_le low n && nat_le n high

-- a number that is spelled so and lies in this range
abbrev pub number_in : ℕ → ℕ → List ℕ → Option ℕ
number_in low high field = if is_numeral field then (let n = value_from 0 field in if in_range low high n then Some n else None) else None
