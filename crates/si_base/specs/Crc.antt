-- CRC_32, bit by bit (ISO/IEC 13818-1, annex A): polynomial 0x04C11DB7, start 0xFFFFFFFF, the highest bit first, no final inversion.
use Rattle.std.specs.Prelude.{◌≡◌, ℕ, ◌+◌, ◌*◌, ◌/◌, ◌%◌, List, [], ◌∷◌, ◌++◌, bit_xor, fold}
use Rattle.si_base.specs.Fields.{four}

-- the remainder after one more bit: the polynomial is taken away where the highest bit and this one differ
abbrev pub crc_bit : ℕ → ℕ → ℕ
crc_bit crc bit = bit_xor ((2 * crc) % 0x100000000) (((crc / 0x80000000 + bit) % 2) * 0x04C11DB7)

-- the bits of a byte, from the highest on
abbrev pub bits_of : ℕ → List ℕ
bits_of b = (b / 128) % 2 ∷ (b / 64) % 2 ∷ (b / 32) % 2 ∷ (b / 16) % 2 ∷ (b / 8) % 2 ∷ (b / 4) % 2 ∷ (b / 2) % 2 ∷ b % 2 ∷ []

-- the remainder after more bits
abbrev pub crc_bits : ℕ → List ℕ → ℕ
crc_bits crc [] = crc
crc_bits crc (bit ∷ bits) = crc_bits (crc_bit crc bit) bits

-- the remainder after more bytes
unfoldable pub crc_from : ℕ → List ℕ → ℕ
crc_from crc bytes = fold (λ (c b : ℕ). crc_bits c (bits_of b)) crc bytes

-- the CRC of these bytes
unfoldable pub crc_of : List ℕ → ℕ
crc_of bytes = crc_from 0xFFFFFFFF bytes

-- Bytes with their CRC behind them have the CRC 0.
abbrev pub CrcLeavesNothing : Type 0
CrcLeavesNothing = (bytes : List ℕ) → crc_of (bytes ++ four (crc_of bytes)) ≡ 0
