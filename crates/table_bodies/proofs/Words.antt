-- A field of 16 bits is read back.
use Rattle.std.proofs.Common.{◌≡◌, ℕ, ◌+◌, ◌*◌, ◌/◌, ◌%◌, ◌<◌, arith}

pub word_back : (n : ℕ) → n < 65536 → 256 * (n / 256 % 256) + n % 256 ≡ n
word_back n lt = omega arith
