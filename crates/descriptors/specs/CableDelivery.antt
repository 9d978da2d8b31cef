-- cable_delivery_system_descriptor (EN 300 468, 6.2.13.1).
use Rattle.std.specs.Prelude.{◌≡◌, ℕ, ◌+◌, ◌*◌, ◌/◌, ◌%◌, ◌<◌, ◌==◌, ◌&&◌, nat_lt, Bool, List, [], ◌∷◌, length, slice_index, Option, Some, None, if◌then◌else◌}
use Rattle.std.specs.List.{list_all}
use Rattle.guide_model.specs.declared.stream.Cable.{Cable}
use Rattle.descriptors.specs.Descriptors.{descriptor}

-- ---- written

-- the last two decimal digits of a number, four bits each
abbrev pub two_digits : ℕ → ℕ
two_digits n = 16 * (n / 10 % 10) + n % 10

-- frequency: 8 digits; reserved 12, all 1, FEC_outer 4; modulation 8; symbol_rate: 7 digits; FEC_inner 4
abbrev pub cable_body : Cable → List ℕ
cable_body c =
    two_digits (c.frequency / 1000000) ∷ two_digits (c.frequency / 10000) ∷ two_digits (c.frequency / 100) ∷ two_digits c.frequency
    ∷ 0xFF ∷ (0xF0 + c.fec_outer) ∷ c.modulation
    ∷ two_digits (c.symbol_rate / 100000) ∷ two_digits (c.symbol_rate / 1000) ∷ two_digits (c.symbol_rate / 10)
    ∷ (16 * (c.symbol_rate % 10) + c.fec_inner) ∷ []

abbrev pub cable_delivery_system : Cable → List ℕ
cable_delivery_system c = descriptor 0x44 (cable_body c)

-- ---- read: fields by their places

-- both halves of a byte are decimal digits
abbrev pub is_decimal : ℕ → Bool
is_decimal b = nat_lt (b / 16) 10 && nat_lt (b % 16) 10

-- the frequency and the symbol rate have decimal digits alone
abbrev pub has_digits : List ℕ → Bool
has_digits body = list_all (λ place. is_decimal (slice_index body place)) (0 ∷ 1 ∷ 2 ∷ 3 ∷ 7 ∷ 8 ∷ 9 ∷ []) && nat_lt (slice_index body 10 / 16) 10

-- the number of the two digits of a byte
abbrev pub digits_at : List ℕ → ℕ → ℕ
digits_at body place = 10 * (slice_index body place / 16) + slice_index body place % 16

abbrev pub frequency_in : List ℕ → ℕ
frequency_in body = 1000000 * digits_at body 0 + 10000 * digits_at body 1 + 100 * digits_at body 2 + digits_at body 3

abbrev pub symbol_rate_in : List ℕ → ℕ
symbol_rate_in body = 100000 * digits_at body 7 + 1000 * digits_at body 8 + 10 * digits_at body 9 + slice_index body 10 / 16

abbrev pub cable_of : List ℕ → Cable
cable_of body = record {
  frequency = frequency_in body;
  modulation = slice_index body 6;
  symbol_rate = symbol_rate_in body;
  fec_outer = slice_index body 5 % 16;
  fec_inner = slice_index body 10 % 16;
}

-- what a body of 11 bytes says; nothing where it has others, or a digit above 9
abbrev pub cable_in : List ℕ → Option Cable
cable_in body = if length body == 11 && has_digits body then Some (cable_of body) else None

-- ---- laws

-- digits and halves of bytes that fit their fields
pub record FitsCable (c : Cable) : Type 0 where
  pub frequency : c.frequency < 100000000
  pub symbol_rate : c.symbol_rate < 10000000
  pub fec_outer : c.fec_outer < 16
  pub fec_inner : c.fec_inner < 16

-- Reading a written body gives its value back.
abbrev pub CableReadsBack : Type 0
CableReadsBack = (c : Cable) → FitsCable c → cable_in (cable_body c) ≡ Some c
