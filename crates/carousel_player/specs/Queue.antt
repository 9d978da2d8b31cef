-- Sections that are still to be sent, the first of which may be sent in part.
use Rattle.std.specs.Prelude.{◌≡◌, ℕ, ◌<◌, List, [], ◌∷◌, Option, Some, None, length}
use Rattle.air_model.specs.Air.{Sent}

-- a section has a byte, and a PID of 13 bits
pub record CanBeSent (s : Sent) : Type 0 where
  pub pid : s.pid < 8192
  pub some : 0 < length s.bytes

abbrev pub first_pid : List Sent → Option ℕ
first_pid [] = None
first_pid (s ∷ ss) = Some s.pid

abbrev pub first_bytes : List Sent → List ℕ
first_bytes [] = []
first_bytes (s ∷ ss) = s.bytes

-- a byte of the first section is still to be sent; where there is none, none was
abbrev pub IsBegun : ℕ → List Sent → Type 0
IsBegun from [] = from ≡ 0
IsBegun from (s ∷ ss) = from < length s.bytes
