-- Numbers of packets.
use Rattle.std.proofs.Common.{◌≡◌, ℕ, suc, ◌+◌, ◌-◌, ◌*◌, ◌<◌, ◌≤◌, arith}

pub none_of_some : (n : ℕ) → 0 < n → n ≡ 0 → ⊥
none_of_some n some none = omega arith

pub some_more : (n : ℕ) → 0 < suc n
some_more n = omega arith

pub same_some : (n m : ℕ) → n ≡ suc m → 0 < n
same_some n m e = omega arith

pub nothing_between : (a b : ℕ) → a ≤ b → a - b ≡ 0
nothing_between a b le = omega arith

pub one_between : (a b : ℕ) → b < a → a - b ≡ suc (a - (b + 1))
one_between a b lt = omega arith

pub next_within : (a b : ℕ) → a < b → a + 1 ≤ b
next_within a b lt = omega arith

pub before_within : (a b : ℕ) → a < b → a ≤ b
before_within a b lt = omega arith

pub some_second : (n a b : ℕ) → n ≡ a + b → 0 < b → 0 < n
some_second n a b e some = omega arith

pub some_first : (n a b : ℕ) → n ≡ a + b → 0 < a → 0 < n
some_first n a b e some = omega arith

pub moment_fits : (m : ℕ) → m < 65536 * 86400 → m ≤ 65536 * 86400 - 1
moment_fits m lt = omega arith
