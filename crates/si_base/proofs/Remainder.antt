-- A byte, four bytes and eight bytes at a time are the same as bit by bit.
use Rattle.std.proofs.Common.{◌≡◌, ℕ, suc, ◌+◌, ◌*◌, ◌/◌, ◌%◌, ◌<◌, List, [], ◌∷◌, ◌++◌, length, refl, sym, ap, ◌∙◌, arith, replicate}
use Rattle.std.specs.Prelude.{bit_xor, slice_index}
use Rattle.std.proofs.lemmas.Nat.{xor_lt, xor_block, xor_comm}
use Rattle.si_base.specs.Crc.{crc_bits, bits_of, crc_from, crc_of}
use Rattle.si_base.specs.Fields.{four}
use Rattle.si_base.proofs.Linear.{xor_zero, xor_itself, xor_assoc, xor_apart, zero_byte, zero_byte-xor, zero_byte-low, byte_is, crc_from-lt, zero_bytes, zero_bytes-none, zero_bytes-more, zero_bytes-last, zero_bytes-xor, zero_bytes-zero, zero_bytes-join, crc_from-none, crc_from-byte, crc_from-zeros, crc_from-append}
use Rattle.si_base.proofs.ZeroTables.{zeros_0_at}
use Rattle.si_base.specs.declared.tables.TheConstants.{ZEROS_0}

-- four bytes as a number, the highest first
abbrev pub word : ℕ → ℕ → ℕ → ℕ → ℕ
word a b c d = a * 16777216 + b * 65536 + c * 256 + d

pub word-xor : (a b c d : ℕ) → b < 256 → c < 256 → d < 256 → bit_xor (bit_xor (bit_xor (a * 16777216) (b * 65536)) (c * 256)) d ≡ word a b c d
word-xor a b c d lb lc ld =
    let one : bit_xor (a * 16777216) (b * 65536) ≡ a * 16777216 + b * 65536 = xor_apart a 24 (b * 65536) (omega arith) in
    let h : a * 16777216 + b * 65536 ≡ (a * 256 + b) * 65536 = omega arith in
    let two : bit_xor ((a * 256 + b) * 65536) (c * 256) ≡ (a * 256 + b) * 65536 + c * 256 = xor_apart (a * 256 + b) 16 (c * 256) (omega arith) in
    let g : (a * 256 + b) * 65536 + c * 256 ≡ (a * 65536 + b * 256 + c) * 256 = omega arith in
    let three : bit_xor ((a * 65536 + b * 256 + c) * 256) d ≡ (a * 65536 + b * 256 + c) * 256 + d = xor_apart (a * 65536 + b * 256 + c) 8 d (omega arith) in
    ap (λ n. bit_xor (bit_xor n (c * 256)) d) (one ∙ h) ∙ ap (λ n. bit_xor n d) (two ∙ g) ∙ three ∙ omega arith

-- ---- a byte

whole_xor : (crc b : ℕ) → bit_xor crc (b * 16777216) ≡ bit_xor (crc % 16777216) (bit_xor (crc / 16777216) b * 16777216)
whole_xor crc b = let l = crc % 16777216 in let h = crc / 16777216 in
    let left : crc ≡ h * 16777216 + l = omega arith in
    let right : b * 16777216 ≡ b * 16777216 + 0 = omega arith in
    ap (λ n. bit_xor n (b * 16777216)) left ∙ ap (λ n. bit_xor (h * 16777216 + l) n) right
    ∙ xor_block 24 h b l 0 (omega arith) (omega arith)
    ∙ ap (λ n. bit_xor h b * 16777216 + n) (xor_zero l)
    ∙ sym (xor_apart (bit_xor h b) 24 l (omega arith))
    ∙ xor_comm (bit_xor h b * 16777216) l

-- the lower bytes stand one byte higher, and the highest is looked up
pub byte_step : (crc b : ℕ) → crc < 4294967296 → b < 256 → bit_xor ((crc * 256) % 4294967296) (slice_index ZEROS_0 (bit_xor (crc / 16777216) b)) ≡ crc_bits crc (bits_of b)
byte_step crc b fits byte = let l = crc % 16777216 in let h = crc / 16777216 in
    let low : (crc * 256) % 4294967296 ≡ l * 256 = omega arith in
    let within : bit_xor h b < 256 = xor_lt 8 h b (omega arith) byte in
    let looked : slice_index ZEROS_0 (bit_xor h b) ≡ zero_byte (bit_xor h b * 16777216) =
    zeros_0_at (bit_xor h b) within ∙ zero_bytes-more 0 (bit_xor h b * 16777216) ∙ zero_bytes-none (zero_byte (bit_xor h b * 16777216)) in
    let whole : bit_xor crc (b * 16777216) ≡ bit_xor l (bit_xor h b * 16777216) = whole_xor crc b in
    ap (λ n. bit_xor n (slice_index ZEROS_0 (bit_xor h b))) (low ∙ sym (zero_byte-low l (omega arith)))
    ∙ ap (λ n. bit_xor (zero_byte l) n) looked
    ∙ sym (zero_byte-xor l (bit_xor h b * 16777216))
    ∙ ap zero_byte (sym whole)
    ∙ sym (byte_is crc b byte)

-- ---- four bytes

-- a byte that stands lower is moved up by the bytes of zero
one_lower : (n b : ℕ) → b < 256 → zero_bytes (suc n) (b * 65536) ≡ zero_bytes n (b * 16777216)
one_lower n b lt = zero_bytes-more n (b * 65536) ∙ ap (zero_bytes n) (zero_byte-low (b * 65536) (omega arith) ∙ omega arith)

two_lower : (n c : ℕ) → c < 256 → zero_bytes (suc (suc n)) (c * 256) ≡ zero_bytes n (c * 16777216)
two_lower n c lt =
    let e : c * 256 * 256 ≡ c * 65536 = omega arith in
    zero_bytes-more (suc n) (c * 256) ∙ ap (zero_bytes (suc n)) (zero_byte-low (c * 256) (omega arith) ∙ e) ∙ one_lower n c lt

three_lower : (n d : ℕ) → d < 256 → zero_bytes (suc (suc (suc n))) d ≡ zero_bytes n (d * 16777216)
three_lower n d lt = zero_bytes-more (suc (suc n)) d ∙ ap (zero_bytes (suc (suc n))) (zero_byte-low d (omega arith)) ∙ two_lower n d lt

-- a word before bytes of zero, by its bytes
pub word_moved : (n a b c d : ℕ) → b < 256 → c < 256 → d < 256
    → bit_xor (bit_xor (bit_xor (zero_bytes (suc (suc (suc n))) (a * 16777216)) (zero_bytes (suc (suc n)) (b * 16777216))) (zero_bytes (suc n) (c * 16777216))) (zero_bytes n (d * 16777216))
    ≡ zero_bytes (suc (suc (suc n))) (word a b c d)
word_moved n a b c d lb lc ld = let m = suc (suc (suc n)) in
    sym (ap (zero_bytes m) (sym (word-xor a b c d lb lc ld))
    ∙ zero_bytes-xor m (bit_xor (bit_xor (a * 16777216) (b * 65536)) (c * 256)) d
    ∙ ap (λ x. bit_xor x (zero_bytes m d)) (zero_bytes-xor m (bit_xor (a * 16777216) (b * 65536)) (c * 256)
    ∙ ap (λ x. bit_xor x (zero_bytes m (c * 256))) (zero_bytes-xor m (a * 16777216) (b * 65536)
    ∙ ap (λ x. bit_xor (zero_bytes m (a * 16777216)) x) (one_lower (suc (suc n)) b lb))
    ∙ ap (λ x. bit_xor (bit_xor (zero_bytes m (a * 16777216)) (zero_bytes (suc (suc n)) (b * 16777216))) x) (two_lower (suc n) c lc))
    ∙ ap (λ x. bit_xor (bit_xor (bit_xor (zero_bytes m (a * 16777216)) (zero_bytes (suc (suc n)) (b * 16777216))) (zero_bytes (suc n) (c * 16777216))) x) (three_lower n d ld))

-- after bytes of zero a byte is added as if it had stood before them
added : (n crc b low : ℕ) → zero_bytes n low ≡ b * 16777216 → zero_byte (bit_xor (zero_bytes n crc) (b * 16777216)) ≡ zero_bytes (suc n) (bit_xor crc low)
added n crc b low e =
    ap (λ x. zero_byte (bit_xor (zero_bytes n crc) x)) (sym e)
    ∙ ap zero_byte (sym (zero_bytes-xor n crc low)) ∙ sym (zero_bytes-last n (bit_xor crc low))

-- four bytes are added as a word, and four bytes of zero follow
pub four_step : (crc a b c d : ℕ) (bytes : List ℕ) → a < 256 → b < 256 → c < 256 → d < 256
    → crc_from crc (a ∷ b ∷ c ∷ d ∷ bytes) ≡ crc_from (zero_bytes 4 (bit_xor crc (word a b c d))) bytes
four_step crc a b c d bytes la lb lc ld =
    let x = bit_xor crc (a * 16777216) in
    let y = bit_xor x (b * 65536) in
    let z = bit_xor y (c * 256) in
    let first : zero_byte x ≡ zero_bytes 1 x = sym (zero_bytes-none (zero_byte x)) ∙ sym (zero_bytes-more 0 x) in
    let second = added 1 x b (b * 65536) (one_lower 0 b lb ∙ zero_bytes-none (b * 16777216)) in
    let third = added 2 y c (c * 256) (two_lower 0 c lc ∙ zero_bytes-none (c * 16777216)) in
    let fourth = added 3 z d d (three_lower 0 d ld ∙ zero_bytes-none (d * 16777216)) in
    let joined : bit_xor z d ≡ bit_xor crc (word a b c d) =
    ap (λ n. bit_xor (bit_xor n (c * 256)) d) (xor_assoc crc (a * 16777216) (b * 65536))
    ∙ ap (λ n. bit_xor n d) (xor_assoc crc (bit_xor (a * 16777216) (b * 65536)) (c * 256))
    ∙ xor_assoc crc (bit_xor (bit_xor (a * 16777216) (b * 65536)) (c * 256)) d
    ∙ ap (bit_xor crc) (word-xor a b c d lb lc ld) in
    crc_from-byte crc a (b ∷ c ∷ d ∷ bytes) la
    ∙ crc_from-byte (zero_byte x) b (c ∷ d ∷ bytes) lb
    ∙ ap (λ n. crc_from (zero_byte (bit_xor n (b * 16777216))) (c ∷ d ∷ bytes)) first
    ∙ ap (λ n. crc_from n (c ∷ d ∷ bytes)) second
    ∙ crc_from-byte (zero_bytes 2 y) c (d ∷ bytes) lc
    ∙ ap (λ n. crc_from n (d ∷ bytes)) third
    ∙ crc_from-byte (zero_bytes 3 z) d bytes ld
    ∙ ap (λ n. crc_from n bytes) (fourth ∙ ap (zero_bytes 4) joined)

-- ---- eight bytes

pub eight_step : (crc a b c d e f g h : ℕ) (bytes : List ℕ) → a < 256 → b < 256 → c < 256 → d < 256 → e < 256 → f < 256 → g < 256 → h < 256
    → crc_from crc (a ∷ b ∷ c ∷ d ∷ e ∷ f ∷ g ∷ h ∷ bytes) ≡ crc_from (bit_xor (zero_bytes 8 (bit_xor crc (word a b c d))) (zero_bytes 4 (word e f g h))) bytes
eight_step crc a b c d e f g h bytes la lb lc ld le lf lg lh =
    let x = bit_xor crc (word a b c d) in
    four_step crc a b c d (e ∷ f ∷ g ∷ h ∷ bytes) la lb lc ld
    ∙ four_step (zero_bytes 4 x) e f g h bytes le lf lg lh
    ∙ ap (λ n. crc_from n bytes) (zero_bytes-xor 4 (zero_bytes 4 x) (word e f g h) ∙ ap (λ n. bit_xor n (zero_bytes 4 (word e f g h))) (zero_bytes-join 4 4 x))

-- ---- a CRC behind its bytes

pub crc_of-lt : (bytes : List ℕ) → crc_of bytes < 4294967296
unfolding crc_of
crc_of-lt bytes = crc_from-lt bytes 4294967295 (omega arith)

own_crc : (crc : ℕ) → crc < 4294967296 → crc_from crc (four crc) ≡ 0
own_crc crc lt =
    let a = crc / 16777216 % 256 in let b = crc / 65536 % 256 in let c = crc / 256 % 256 in let d = crc % 256 in
    let whole : word a b c d ≡ crc = omega arith in
    four_step crc a b c d [] (omega arith) (omega arith) (omega arith) (omega arith)
    ∙ crc_from-none (zero_bytes 4 (bit_xor crc (word a b c d)))
    ∙ ap (λ n. zero_bytes 4 (bit_xor crc n)) whole
    ∙ ap (zero_bytes 4) (xor_itself crc) ∙ zero_bytes-zero 4

pub crc_of-own_crc : (bytes : List ℕ) → crc_of (bytes ++ four (crc_of bytes)) ≡ 0
unfolding crc_of
crc_of-own_crc bytes =
    crc_from-append 4294967295 bytes (four (crc_of bytes)) ∙ own_crc (crc_of bytes) (crc_of-lt bytes)

-- ---- a block of the code

-- eight bytes by their places
eight_of : (xs : List ℕ) → length xs ≡ 8
    → xs ≡ slice_index xs 0 ∷ slice_index xs 1 ∷ slice_index xs 2 ∷ slice_index xs 3 ∷ slice_index xs 4 ∷ slice_index xs 5 ∷ slice_index xs 6 ∷ slice_index xs 7 ∷ []
eight_of [] e = absurd (omega arith)
eight_of (a ∷ []) e = absurd (omega arith)
eight_of (a ∷ b ∷ []) e = absurd (omega arith)
eight_of (a ∷ b ∷ c ∷ []) e = absurd (omega arith)
eight_of (a ∷ b ∷ c ∷ d ∷ []) e = absurd (omega arith)
eight_of (a ∷ b ∷ c ∷ d ∷ f ∷ []) e = absurd (omega arith)
eight_of (a ∷ b ∷ c ∷ d ∷ f ∷ g ∷ []) e = absurd (omega arith)
eight_of (a ∷ b ∷ c ∷ d ∷ f ∷ g ∷ h ∷ []) e = absurd (omega arith)
eight_of (a ∷ b ∷ c ∷ d ∷ f ∷ g ∷ h ∷ i ∷ []) e = refl
eight_of (a ∷ b ∷ c ∷ d ∷ f ∷ g ∷ h ∷ i ∷ j ∷ xs) e = absurd (omega arith)

pub block_step : (crc : ℕ) (xs : List ℕ) → length xs ≡ 8 → ((k : ℕ) → slice_index xs k < 256)
    → bit_xor (crc_from (bit_xor crc (word (slice_index xs 0) (slice_index xs 1) (slice_index xs 2) (slice_index xs 3))) (replicate 8 0))
    (crc_from (word (slice_index xs 4) (slice_index xs 5) (slice_index xs 6) (slice_index xs 7)) (replicate 4 0))
    ≡ crc_from crc xs
block_step crc xs e lt =
    let x = bit_xor crc (word (slice_index xs 0) (slice_index xs 1) (slice_index xs 2) (slice_index xs 3)) in
    let y = word (slice_index xs 4) (slice_index xs 5) (slice_index xs 6) (slice_index xs 7) in
    ap (λ n. bit_xor n (crc_from y (replicate 4 0))) (crc_from-zeros 8 x)
    ∙ ap (λ n. bit_xor (zero_bytes 8 x) n) (crc_from-zeros 4 y)
    ∙ sym (crc_from-none (bit_xor (zero_bytes 8 x) (zero_bytes 4 y)))
    ∙ sym (eight_step crc (slice_index xs 0) (slice_index xs 1) (slice_index xs 2) (slice_index xs 3) (slice_index xs 4) (slice_index xs 5) (slice_index xs 6) (slice_index xs 7) []
    (lt 0) (lt 1) (lt 2) (lt 3) (lt 4) (lt 5) (lt 6) (lt 7))
    ∙ ap (crc_from crc) (sym (eight_of xs e))
