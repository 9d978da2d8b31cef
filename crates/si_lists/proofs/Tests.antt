-- Tests of lists of numbers, made step by step.
use Rattle.std.proofs.Common.{◌≡◌, ℕ, ◌≤◌, Bool, List, length, refl, arith}

-- what is left decides, and n bounds how many steps there are
pub record Decides (test : ℕ → List ℕ → Bool) (bytes rest : List ℕ) : Type 0 where
  pub n : ℕ
  pub enough : length rest ≤ n
  pub same : test n rest ≡ test (length bytes) bytes

pub all_left : (test : ℕ → List ℕ → Bool) (bytes : List ℕ) → Decides test bytes bytes
all_left test bytes = record { n = length bytes; enough = omega arith; same = refl }
