-- Worked values.
use Rattle.std.specs.Prelude.{◌≡◌, [], ◌∷◌, ◌++◌, codes, refl}
use Rattle.si_base.specs.Fields.{two, four, two_at, four_at}
use Rattle.si_base.specs.Crc.{crc_of, crc_from}

of_digits : crc_of (codes "123456789") ≡ 0x0376E6E7
unfolding crc_of crc_from
of_digits = refl

of_digits_and_crc : crc_of (codes "123456789" ++ 0x03 ∷ 0x76 ∷ 0xE6 ∷ 0xE7 ∷ []) ≡ 0
unfolding crc_of crc_from
of_digits_and_crc = refl

of_nothing : crc_of [] ≡ 0xFFFFFFFF
unfolding crc_of crc_from
of_nothing = refl

two_bytes : two 0x1234 ≡ 0x12 ∷ 0x34 ∷ []
two_bytes = refl

four_bytes : four 0x0376E6E7 ≡ 0x03 ∷ 0x76 ∷ 0xE6 ∷ 0xE7 ∷ []
four_bytes = refl

read_two : two_at 1 (0x00 ∷ 0x12 ∷ 0x34 ∷ []) ≡ 0x1234
read_two = refl

read_four : four_at 1 (0x00 ∷ 0x03 ∷ 0x76 ∷ 0xE6 ∷ 0xE7 ∷ []) ≡ 0x0376E6E7
read_four = refl
