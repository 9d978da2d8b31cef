-- The remainder is linear: that of two numbers with their bits added is the sum of theirs, bit by bit.
use Rattle.std.proofs.Common.{◌≡◌, ℕ, zero, suc, ◌+◌, ◌*◌, ◌/◌, ◌%◌, ◌^◌, ◌<◌, ◌≤◌, Bool, true, List, [], ◌∷◌, ◌++◌, replicate, refl, sym, ap, ◌∙◌, arith, inl, inr}
use Rattle.std.specs.Prelude.{◌&&◌, ◌==◌, bit_xor, map}
use Rattle.std.specs.Int.{bit_at}
use Rattle.std.proofs.lemmas.Bool.{cases_lt, eqb-true, and_parts}
use Rattle.std.proofs.lemmas.List.Sums.{fold-append}
use Rattle.std.proofs.lemmas.Nat.{xor_lt, xor_block, xor_comm, pow_pos}
use Rattle.std.proofs.lemmas.Nat.Bits.{bit_at_above, same_from_bits, bit_at-zero, bit_at_xor, bit_at-suc, bit_at_lowest, bit_at-lt, bit_at_cat_low}
use Rattle.si_base.specs.Crc.{crc_bit, crc_bits, bits_of, crc_from}

-- ---- sums of bits

pub xor_zero : (n : ℕ) → bit_xor n 0 ≡ n
xor_zero n = same_from_bits (bit_xor n 0) n (λ i. bit_at_xor n 0 i ∙ ap (λ z. (bit_at n i + z) % 2) (bit_at-zero i) ∙ omega (arith, bit_at-lt n i))

pub xor_itself : (n : ℕ) → bit_xor n n ≡ 0
xor_itself n = same_from_bits (bit_xor n n) 0 (λ i. omega (arith, bit_at_xor n n i, bit_at-zero i))

pub xor_assoc : (a b c : ℕ) → bit_xor (bit_xor a b) c ≡ bit_xor a (bit_xor b c)
xor_assoc a b c = same_from_bits (bit_xor (bit_xor a b) c) (bit_xor a (bit_xor b c)) (λ i.
    omega (arith, bit_at_xor (bit_xor a b) c i, bit_at_xor a b i, bit_at_xor a (bit_xor b c) i, bit_at_xor b c i))

-- where the bits of two numbers lie apart, their sum is that of the numbers
pub xor_apart : (a k b : ℕ) → b < 2 ^ k → bit_xor (a * 2 ^ k) b ≡ a * 2 ^ k + b
xor_apart a k b lt =
    let left : a * 2 ^ k ≡ a * 2 ^ k + 0 = omega arith in
    let right : b ≡ 0 * 2 ^ k + b = omega arith in
    ap (λ n. bit_xor n b) left ∙ ap (λ n. bit_xor (a * 2 ^ k + 0) n) right
    ∙ xor_block k a 0 0 b (pow_pos k) lt
    ∙ ap (λ n. n * 2 ^ k + bit_xor 0 b) (xor_zero a) ∙ ap (λ n. a * 2 ^ k + n) (xor_comm 0 b ∙ xor_zero b)

-- ---- one bit more

mod_low : (a j : ℕ) → j < 31 → bit_at (a % 2147483648) j ≡ bit_at a j
mod_low a j lt =
    let whole : (a / 2147483648) * 2147483648 + a % 2147483648 ≡ a = omega arith in
    sym (bit_at_cat_low (a / 2147483648) 31 (a % 2147483648) j lt) ∙ ap (λ n. bit_at n j) whole

mod_high : (a j : ℕ) → 31 ≤ j → bit_at (a % 2147483648) j ≡ 0
mod_high a j le = bit_at_above (a % 2147483648) 31 j (omega arith) le

shifted : (a j : ℕ) → bit_at ((2 * a) % 4294967296) (suc j) ≡ bit_at (a % 2147483648) j
shifted a j =
    let half : (2 * a) % 4294967296 / 2 ≡ a % 2147483648 = omega arith in
    bit_at-suc ((2 * a) % 4294967296) j ∙ ap (λ n. bit_at n j) half

lowest : (a : ℕ) → bit_at ((2 * a) % 4294967296) 0 ≡ 0
lowest a = bit_at_lowest ((2 * a) % 4294967296) ∙ omega arith

low_xor : (a c j : ℕ) → bit_at (bit_xor a c % 2147483648) j ≡ (bit_at (a % 2147483648) j + bit_at (c % 2147483648) j) % 2
low_xor a c j = elim (cases_lt j 31) [
  | inl lt ↦ omega (arith, mod_low (bit_xor a c) j lt, bit_at_xor a c j, mod_low a j lt, mod_low c j lt)
  | inr le ↦ omega (arith, mod_high (bit_xor a c) j le, mod_high a j le, mod_high c j le)
]

shift_xor : (a c i : ℕ) → bit_at ((2 * bit_xor a c) % 4294967296) i ≡ (bit_at ((2 * a) % 4294967296) i + bit_at ((2 * c) % 4294967296) i) % 2
shift_xor a c zero = omega (arith, lowest (bit_xor a c), lowest a, lowest c)
shift_xor a c (suc j) = omega (arith, shifted (bit_xor a c) j, low_xor a c j, shifted a j, shifted c j)

-- the polynomial taken once or not at all
times : (t p i : ℕ) → t < 2 → bit_at (t * p) i ≡ t * bit_at p i
times t p i lt = elim (cases_lt t 1) [
  | inl z ↦ let e : t ≡ 0 = omega arith in rw e (let m : 0 * p ≡ 0 = omega arith in rw m (bit_at-zero i ∙ omega arith))
  | inr o ↦ let e : t ≡ 1 = omega arith in rw e (let m : 1 * p ≡ p = omega arith in rw m (omega arith))
]

parity : (p q k m n mn y : ℕ) → k < 2 → mn % 2 ≡ (m % 2 + n % 2) % 2 → ((p + q) % 2 + ((mn + y) % 2) * k) % 2 ≡ ((p + ((m + 0) % 2) * k) % 2 + (q + ((n + y) % 2) * k) % 2) % 2
parity p q k m n mn y lt e = elim (cases_lt k 1) [
  | inl z ↦ let k0 : k ≡ 0 = omega arith in rw k0 (omega arith)
  | inr o ↦ let k1 : k ≡ 1 = omega arith in rw k1 (omega arith)
]

-- one bit of the remainder after one more bit
bit_of : (a x i : ℕ) → bit_at (crc_bit a x) i ≡ (bit_at ((2 * a) % 4294967296) i + ((a / 2147483648 + x) % 2) * bit_at 79764919 i) % 2
bit_of a x i = bit_at_xor ((2 * a) % 4294967296) (((a / 2147483648 + x) % 2) * 79764919) i
    ∙ ap (λ n. (bit_at ((2 * a) % 4294967296) i + n) % 2) (times ((a / 2147483648 + x) % 2) 79764919 i (omega arith))

linear : (a c y : ℕ) → crc_bit (bit_xor a c) y ≡ bit_xor (crc_bit a 0) (crc_bit c y)
linear a c y = same_from_bits (crc_bit (bit_xor a c) y) (bit_xor (crc_bit a 0) (crc_bit c y)) (λ i.
    bit_of (bit_xor a c) y i
    ∙ ap (λ n. (n + ((bit_xor a c / 2147483648 + y) % 2) * bit_at 79764919 i) % 2) (shift_xor a c i)
    ∙ parity (bit_at ((2 * a) % 4294967296) i) (bit_at ((2 * c) % 4294967296) i) (bit_at 79764919 i) (a / 2147483648) (c / 2147483648) (bit_xor a c / 2147483648) y (bit_at-lt 79764919 i) (bit_at_xor a c 31)
    ∙ ap (λ n. (n + (bit_at ((2 * c) % 4294967296) i + ((c / 2147483648 + y) % 2) * bit_at 79764919 i) % 2) % 2) (sym (bit_of a 0 i))
    ∙ ap (λ n. (bit_at (crc_bit a 0) i + n) % 2) (sym (bit_of c y i))
    ∙ sym (bit_at_xor (crc_bit a 0) (crc_bit c y) i))

pub linear_bits : (bits : List ℕ) (a c : ℕ) → crc_bits (bit_xor a c) bits ≡ bit_xor (crc_bits a (map (λ _. 0) bits)) (crc_bits c bits)
linear_bits [] a c = refl
linear_bits (bit ∷ bits) a c = ap (λ n. crc_bits n bits) (linear a c bit) ∙ linear_bits bits (crc_bit a 0) (crc_bit c bit)

-- ---- a byte more

-- the remainder after a byte of zero
unfoldable pub zero_byte : ℕ → ℕ
zero_byte crc = crc_bits crc (bits_of 0)

pub zero_byte-xor : (a c : ℕ) → zero_byte (bit_xor a c) ≡ bit_xor (zero_byte a) (zero_byte c)
unfolding zero_byte
zero_byte-xor a c = linear_bits (bits_of 0) a c

low_step : (l : ℕ) → l < 2147483648 → crc_bit l 0 ≡ 2 * l
low_step l lt =
    let none : ((l / 2147483648 + 0) % 2) * 79764919 ≡ 0 = omega arith in
    let fits : (2 * l) % 4294967296 ≡ 2 * l = omega arith in
    ap (λ z. bit_xor ((2 * l) % 4294967296) z) none ∙ xor_zero ((2 * l) % 4294967296) ∙ fits

low_more : (crc l k : ℕ) → crc ≡ l * k → l * k < 2147483648 → crc_bit crc 0 ≡ l * (2 * k)
low_more crc l k e lt = ap (λ n. crc_bit n 0) e ∙ low_step (l * k) lt ∙ grind arith

-- a number below the highest byte stands one byte higher after a byte of zero
pub zero_byte-low : (l : ℕ) → l < 16777216 → zero_byte l ≡ l * 256
unfolding zero_byte
zero_byte-low l lt =
    let one = low_more l l 1 (omega arith) (omega arith) in
    let two = low_more _ l 2 one (omega arith) in
    let three = low_more _ l 4 two (omega arith) in
    let four = low_more _ l 8 three (omega arith) in
    let five = low_more _ l 16 four (omega arith) in
    let six = low_more _ l 32 five (omega arith) in
    let seven = low_more _ l 64 six (omega arith) in
    low_more _ l 128 seven (omega arith)

-- the bits of each byte below n after a remainder of 0
abbrev bytes_below : ℕ → Bool
bytes_below zero = true
bytes_below (suc n) = crc_bits 0 (bits_of n) == crc_bits (n * 16777216) (bits_of 0) && bytes_below n

byte_below : (n b : ℕ) → bytes_below n ≡ true → b < n → crc_bits 0 (bits_of b) ≡ crc_bits (b * 16777216) (bits_of 0)
byte_below zero b r lt = absurd (omega arith)
byte_below (suc n) b r lt = elim (cases_lt b n) [
  | inl less ↦ byte_below n b (and_parts (crc_bits 0 (bits_of n) == crc_bits (n * 16777216) (bits_of 0)) (bytes_below n) r).1 less
  | inr le ↦ let e : b ≡ n = omega arith in rw e (eqb-true (crc_bits 0 (bits_of n)) (crc_bits (n * 16777216) (bits_of 0)) (and_parts (crc_bits 0 (bits_of n) == crc_bits (n * 16777216) (bits_of 0)) (bytes_below n) r).0)
]

-- a byte is added to the highest one, and a byte of zero follows
pub byte_is : (crc b : ℕ) → b < 256 → crc_bits crc (bits_of b) ≡ zero_byte (bit_xor crc (b * 16777216))
unfolding zero_byte
byte_is crc b lt =
    ap (λ n. crc_bits n (bits_of b)) (sym (xor_zero crc)) ∙ linear_bits (bits_of b) crc 0
    ∙ ap (λ n. bit_xor (crc_bits crc (bits_of 0)) n) (byte_below 256 b refl lt) ∙ sym (linear_bits (bits_of 0) crc (b * 16777216))

-- the remainder fits 32 bits
crc_bits-lt : (bits : List ℕ) (crc : ℕ) → crc < 4294967296 → crc_bits crc bits < 4294967296
crc_bits-lt [] crc lt = lt
crc_bits-lt (bit ∷ bits) crc lt =
    crc_bits-lt bits (crc_bit crc bit) (xor_lt 32 ((2 * crc) % 4294967296) (((crc / 2147483648 + bit) % 2) * 79764919) (omega arith) (omega arith))

pub crc_from-lt : (bytes : List ℕ) (crc : ℕ) → crc < 4294967296 → crc_from crc bytes < 4294967296
unfolding crc_from
crc_from-lt [] crc lt = lt
crc_from-lt (b ∷ bytes) crc lt = crc_from-lt bytes (crc_bits crc (bits_of b)) (crc_bits-lt (bits_of b) crc lt)

-- ---- bytes of zero, and bytes

pub zero_bytes : ℕ → ℕ → ℕ
zero_bytes zero crc = crc
zero_bytes (suc n) crc = zero_bytes n (zero_byte crc)

pub zero_bytes-none : (crc : ℕ) → zero_bytes 0 crc ≡ crc
unfolding zero_bytes
zero_bytes-none crc = refl

pub zero_bytes-more : (n crc : ℕ) → zero_bytes (suc n) crc ≡ zero_bytes n (zero_byte crc)
unfolding zero_bytes
zero_bytes-more n crc = refl

pub zero_bytes-last : (n crc : ℕ) → zero_bytes (suc n) crc ≡ zero_byte (zero_bytes n crc)
unfolding zero_bytes
zero_bytes-last zero crc = refl
zero_bytes-last (suc n) crc = zero_bytes-last n (zero_byte crc)

pub zero_bytes-xor : (n a c : ℕ) → zero_bytes n (bit_xor a c) ≡ bit_xor (zero_bytes n a) (zero_bytes n c)
unfolding zero_bytes
zero_bytes-xor zero a c = refl
zero_bytes-xor (suc n) a c = ap (zero_bytes n) (zero_byte-xor a c) ∙ zero_bytes-xor n (zero_byte a) (zero_byte c)

pub zero_bytes-zero : (n : ℕ) → zero_bytes n 0 ≡ 0
zero_bytes-zero n = ap (zero_bytes n) (sym (xor_itself 0)) ∙ zero_bytes-xor n 0 0 ∙ xor_itself (zero_bytes n 0)

pub zero_bytes-join : (m n crc : ℕ) → zero_bytes m (zero_bytes n crc) ≡ zero_bytes (n + m) crc
unfolding zero_bytes
zero_bytes-join m zero crc = let e : m ≡ 0 + m = omega arith in ap (λ k. zero_bytes k crc) e
zero_bytes-join m (suc n) crc =
    let e : suc (n + m) ≡ suc n + m = omega arith in
    zero_bytes-join m n (zero_byte crc) ∙ ap (λ k. zero_bytes k crc) e

pub crc_from-none : (crc : ℕ) → crc_from crc [] ≡ crc
unfolding crc_from
crc_from-none crc = refl

pub crc_from-byte : (crc b : ℕ) (bytes : List ℕ) → b < 256 → crc_from crc (b ∷ bytes) ≡ crc_from (zero_byte (bit_xor crc (b * 16777216))) bytes
unfolding crc_from
crc_from-byte crc b bytes lt = ap (λ n. crc_from n bytes) (byte_is crc b lt)

pub crc_from-zeros : (n crc : ℕ) → crc_from crc (replicate n 0) ≡ zero_bytes n crc
crc_from-zeros zero crc = crc_from-none crc ∙ sym (zero_bytes-none crc)
crc_from-zeros (suc n) crc =
    crc_from-byte crc 0 (replicate n 0) (omega arith)
    ∙ ap (λ k. crc_from (zero_byte k) (replicate n 0)) (xor_zero crc)
    ∙ crc_from-zeros n (zero_byte crc) ∙ sym (zero_bytes-more n crc)

pub crc_from-append : (crc : ℕ) (xs ys : List ℕ) → crc_from crc (xs ++ ys) ≡ crc_from (crc_from crc xs) ys
unfolding crc_from
crc_from-append crc xs ys = fold-append (λ (c b : ℕ). crc_bits c (bits_of b)) crc xs ys
