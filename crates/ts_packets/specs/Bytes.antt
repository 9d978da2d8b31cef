-- The 188 bytes of a packet (ISO/IEC 13818-1, 2.4.3.2).
use Rattle.std.specs.Prelude.{◌≡◌, ℕ, ◌+◌, ◌*◌, ◌/◌, ◌%◌, ◌<◌, List, [], ◌∷◌, Bool, false, ◌||◌, ◌==◌, nat_lt, if◌then◌else◌, slice_index, slice_set, length, drop, map, Result, Ok, Err}
use Rattle.ts_packets.specs.declared.shape.Shape.{Shape}
use Rattle.ts_packets.specs.declared.shape.Shape.TheVariants.{Pass, Gap, Load}
use Rattle.ts_packets.specs.declared.shape.BadPacket.{BadPacket}
use Rattle.ts_packets.specs.declared.shape.BadPacket.TheVariants.{Sync}
use Rattle.ts_packets.specs.Packets.{Piece, pieces, alone, stretch}

-- a packet that is written: its PID, its continuity_counter, and its piece
pub record Packet : Type 0 where
  pub pid : ℕ
  pub counter : ℕ
  pub piece : Piece

-- Its bytes: sync_byte, no error, no priority, not scrambled, a payload and no adaptation field.
abbrev pub bytes_of_packet : Packet → List ℕ
bytes_of_packet p = 71 ∷ ((if p.piece.start then 64 else 0) + p.pid / 256) ∷ (p.pid % 256) ∷ (16 + p.counter) ∷ p.piece.payload

-- its fields fit their bits
pub record HasFields (p : Packet) : Type 0 where
  pub pid : p.pid < 8192
  pub counter : p.counter < 16

-- a packet before its counter is set
abbrev pub packet_on : ℕ → Piece → Packet
packet_on pid piece = record { pid = pid; counter = 0; piece = piece }

-- the packets of a section that begins in a packet of its own
abbrev pub packets_alone : ℕ → List ℕ → List Packet
packets_alone pid section = map (packet_on pid) (pieces [] (alone section))

-- the packets of a stretch of sections that share them
abbrev pub packets_dense : ℕ → List (List ℕ) → List Packet
packets_dense pid sections = map (packet_on pid) (pieces [] (stretch sections))

-- The fields of a packet, read from its bytes.
abbrev pub transport_error_indicator : List ℕ → Bool
transport_error_indicator bytes = slice_index bytes 1 / 128 == 1

abbrev pub payload_unit_start_indicator : List ℕ → Bool
payload_unit_start_indicator bytes = (slice_index bytes 1 / 64) % 2 == 1

abbrev pub transport_priority : List ℕ → Bool
transport_priority bytes = (slice_index bytes 1 / 32) % 2 == 1

abbrev pub pid_in : List ℕ → ℕ
pid_in bytes = (slice_index bytes 1 % 32) * 256 + slice_index bytes 2

abbrev pub transport_scrambling_control : List ℕ → ℕ
transport_scrambling_control bytes = slice_index bytes 3 / 64

abbrev pub adaptation_field_control : List ℕ → ℕ
adaptation_field_control bytes = (slice_index bytes 3 / 16) % 4

abbrev pub continuity_counter : List ℕ → ℕ
continuity_counter bytes = slice_index bytes 3 % 16

abbrev pub adaptation_field_length : List ℕ → ℕ
adaptation_field_length bytes = slice_index bytes 4

abbrev pub load_at : List ℕ → ℕ → Shape
load_at bytes at = Load (pid_in bytes) (payload_unit_start_indicator bytes) (continuity_counter bytes) at

-- what a packet with the sync byte is; the first case that applies counts
abbrev pub shape_behind_sync : List ℕ → Shape
shape_behind_sync bytes =
    if transport_error_indicator bytes || nat_lt 0 (transport_scrambling_control bytes) then Gap (pid_in bytes)
    else if (pid_in bytes == 8191) || (adaptation_field_control bytes == 0) || (adaptation_field_control bytes == 2) then Pass
    else if adaptation_field_control bytes == 1 then load_at bytes 4
    else if nat_lt 182 (adaptation_field_length bytes) then Gap (pid_in bytes)
    else load_at bytes (5 + adaptation_field_length bytes)

abbrev pub shape_in : List ℕ → Result Shape BadPacket
shape_in bytes = if slice_index bytes 0 == 71 then Ok (shape_behind_sync bytes) else Err Sync

-- the packet that these bytes are, where their header is one that is written
abbrev pub packet_in : List ℕ → Packet
packet_in bytes = record { pid = pid_in bytes; counter = continuity_counter bytes; piece = record { start = payload_unit_start_indicator bytes; payload = drop 4 bytes } }

-- The header of a written packet stands before 184 bytes.
pub record HasWrittenHeader (bytes : List ℕ) : Type 0 where
  pub size : length bytes ≡ 188
  pub sync : slice_index bytes 0 ≡ 71
  pub sound : transport_error_indicator bytes ≡ false
  pub no_priority : transport_priority bytes ≡ false
  pub clear : transport_scrambling_control bytes ≡ 0
  pub payload_alone : adaptation_field_control bytes ≡ 1
  pub second_byte : slice_index bytes 1 < 256
  pub third_byte : slice_index bytes 2 < 256

-- the same packet with another continuity_counter
abbrev pub with_counter : ℕ → List ℕ → List ℕ
with_counter n bytes = slice_set bytes 3 (16 * (slice_index bytes 3 / 16) + n)
