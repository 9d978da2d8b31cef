-- Bytes behind a length of 8 bits.
use Rattle.std.specs.Prelude.{◌≡◌, ℕ, List, [], ◌∷◌, ◌++◌, ◌==◌, length, take, drop, nat_le, Option, Some, None, if◌then◌else◌}

-- written: a length of 8 bits, and so many bytes
abbrev pub with_length : List ℕ → List ℕ
with_length bytes = length bytes ∷ bytes

-- read: those bytes, and what follows them; there is none where the length is missing or runs past the end
abbrev pub split_length : List ℕ → Option (List ℕ × List ℕ)
split_length [] = None
split_length (n ∷ rest) = if nat_le n (length rest) then Some (take n rest, drop n rest) else None

-- read: bytes that nothing follows; there are none where they are not just as many as the length tells
abbrev pub behind_length : List ℕ → Option (List ℕ)
behind_length [] = None
behind_length (n ∷ rest) = if n == length rest then Some rest else None

-- Bytes that were written behind their length are read back, and so is what follows.
pub record LengthsReadBack : Type 0 where
  pub split : (bytes rest : List ℕ) → split_length (with_length bytes ++ rest) ≡ Some (bytes, rest)
  pub whole : (bytes : List ℕ) → behind_length (with_length bytes) ≡ Some bytes
