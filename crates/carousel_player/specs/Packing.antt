-- A packet that takes pieces of the sections still to come, one after the other.
use Rattle.std.specs.Prelude.{◌≡◌, ℕ, zero, suc, ◌<◌, List, [], ◌∷◌, Option, Some, None, Bool, true, false, ◌==◌, ◌&&◌, nat_lt, if◌then◌else◌, length, drop}
use Rattle.ts_packets.specs.Bytes.{Packet}
use Rattle.ts_packets.specs.Packer.{Begun, empty_on, with_first, finished}
use Rattle.air_model.specs.Air.{Sent}
use Rattle.air_model.specs.Making.{each_dense, goes_on}
use Rattle.carousel_player.specs.Queue.{first_pid, IsBegun}

-- the packets of these sections, after so many bytes of the first of them
abbrev pub packets_behind : List Sent → ℕ → List Packet
packets_behind ss zero = each_dense ss
packets_behind [] (suc from) = []
packets_behind (s ∷ ss) (suc from) = goes_on s.pid (drop (suc from) s.bytes) ss

-- what a packet that is begun has no room for, of the section that was put into it last
abbrev pub not_put : Option ℕ → List ℕ → List ℕ
not_put None bytes = drop 184 bytes
not_put (Some pointer) bytes = drop 183 bytes

-- the packet that is begun, finished with all sections of its PID that can begin in it, and the packets after it
abbrev pub packets_with : Begun → List Sent → List Packet
packets_with b [] = finished b ∷ goes_on b.pid (not_put b.pointer b.bytes) []
packets_with b (s ∷ ss) =
    if (s.pid == b.pid) && nat_lt (length b.bytes) 183 then packets_with (with_first b s.bytes) ss
    else finished b ∷ goes_on b.pid (not_put b.pointer b.bytes) (s ∷ ss)

-- so too where a section goes on, in a packet that is empty
abbrev pub packets_from : Begun → List Sent → ℕ → List Packet
packets_from b ss zero = packets_with b ss
packets_from b ss (suc from) = packets_behind ss (suc from)

-- A packet that is begun can take these sections, after so many bytes of the first: it holds all that was put into it, is
-- empty where a section goes on, and where it is empty the next section is of its PID.
pub record CanTake (b : Begun) (ss : List Sent) (from : ℕ) : Type 0 where
  pub begun : IsBegun from ss
  pub fits : not_put b.pointer b.bytes ≡ []
  pub empty : 0 < from → b ≡ empty_on b.pid
  pub some : b.bytes ≡ [] → first_pid ss ≡ Some b.pid

-- It took the next section to its end, and the same packets are to come.
pub record Took (b new : Begun) (ss left : List Sent) (from : ℕ) : Type 0 where
  pub can : CanTake new left 0
  pub pid : new.pid ≡ b.pid
  pub same : packets_from new left 0 ≡ packets_from b ss from
  pub fewer : length left < length ss

-- It took what it could of the sections of its PID, and is the first packet that was to come.
pub record IsFilled (b new : Begun) (ss left : List Sent) (from sent : ℕ) : Type 0 where
  pub begun : IsBegun sent left
  pub pid : new.pid ≡ b.pid
  pub some : 0 < length new.bytes
  pub same : finished new ∷ packets_behind left sent ≡ packets_from b ss from

abbrev pub Takes : Bool → Begun → Begun → List Sent → List Sent → ℕ → ℕ → Type 0
Takes true b new ss left from sent = Took b new ss left from × (sent ≡ 0)
Takes false b new ss left from sent = IsFilled b new ss left from sent
