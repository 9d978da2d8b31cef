-- Fields of whole bytes, the highest byte first.
use Rattle.std.specs.Prelude.{ℕ, ◌+◌, ◌*◌, List, slice_index}
use Rattle.std.specs.Int.{to_be_bytes, w16, w32}

-- the bytes of a field of 16 bits
abbrev pub two : ℕ → List ℕ
two n = to_be_bytes w16 n

-- the bytes of a field of 32 bits
abbrev pub four : ℕ → List ℕ
four n = to_be_bytes w32 n

-- the field of 16 bits at a place, counted in bytes
abbrev pub two_at : ℕ → List ℕ → ℕ
two_at i bytes = 256 * slice_index bytes i + slice_index bytes (i + 1)

-- the field of 32 bits at a place
abbrev pub four_at : ℕ → List ℕ → ℕ
four_at i bytes = 65536 * two_at i bytes + two_at (i + 2) bytes
