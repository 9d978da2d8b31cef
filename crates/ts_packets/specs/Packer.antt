-- A packet that pieces of sections are put into, one behind the other (ISO/IEC 13818-1, 2.4.4.2).
use Rattle.std.specs.Prelude.{ℕ, ◌-◌, List, [], ◌∷◌, ◌++◌, Option, Some, None, true, false, ◌==◌, if◌then◌else◌, length}
use Rattle.ts_packets.specs.Packets.{Piece, filled}
use Rattle.ts_packets.specs.Bytes.{Packet, packet_on}

-- the packet that is begun: its PID, its pointer_field if a section begins in it, and its bytes of sections so far
pub record Begun : Type 0 where
  pub pid : ℕ
  pub pointer : Option ℕ
  pub bytes : List ℕ

abbrev pub empty_on : ℕ → Begun
empty_on pid = record { pid = pid; pointer = None; bytes = [] }

-- how many bytes more it can have of a section that has so many before them: the pointer takes one byte where a section begins
abbrev pub room_for : Begun → ℕ → ℕ
room_for b from = if from == 0 then 183 - length b.bytes else 184

-- the pointer counts the bytes before the first section that begins
abbrev pub pointer_at : Option ℕ → ℕ → Option ℕ
pointer_at None n = Some n
pointer_at (Some pointer) n = Some pointer

-- with these bytes of a section that begins, and with these of one that goes on
abbrev pub with_first : Begun → List ℕ → Begun
with_first b bytes = record { pid = b.pid; pointer = pointer_at b.pointer (length b.bytes); bytes = b.bytes ++ bytes }

abbrev pub with_further : Begun → List ℕ → Begun
with_further b bytes = record { pid = b.pid; pointer = b.pointer; bytes = b.bytes ++ bytes }

-- the packet, with fill behind these bytes
abbrev pub piece_so_far : Option ℕ → List ℕ → Piece
piece_so_far None bytes = record { start = false; payload = filled 184 bytes }
piece_so_far (Some pointer) bytes = record { start = true; payload = pointer ∷ filled 183 bytes }

abbrev pub finished : Begun → Packet
finished b = packet_on b.pid (piece_so_far b.pointer b.bytes)
