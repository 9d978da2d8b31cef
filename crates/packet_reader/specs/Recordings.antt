-- The packets of a recording: pieces of 188 bytes from its first byte on, each with the sync byte 0x47 first
-- (ISO/IEC 13818-1, 2.4.3.2 and 2.4.3.3).
use Rattle.std.specs.Prelude.{ℕ, zero, suc, ◌==◌, ◌&&◌, Bool, List, [], ◌∷◌, length, take, drop, slice_index, if◌then◌else◌}

-- how a recording stops: at its end; with a piece that is no packet; or with a byte past the last packet that it may have
pub data RecordingEnd : Type 0 where
  AtEnd : RecordingEnd
  Broken : RecordingEnd
  PastLimit : RecordingEnd

-- how many packets a recording may have
abbrev pub packet_limit : ℕ
packet_limit = 4294967295

abbrev pub is_packet : List ℕ → Bool
is_packet piece = (length piece == 188) && (slice_index piece 0 == 0x47)

-- a packet in front of others
abbrev pub and_packet : List ℕ → List (List ℕ) × RecordingEnd → List (List ℕ) × RecordingEnd
and_packet packet rest = (packet ∷ rest.0, rest.1)

-- The packets in these bytes, up to the first piece that is none, and how they stop; n of them may come.
abbrev pub packets_in : ℕ → List ℕ → List (List ℕ) × RecordingEnd
packets_in n [] = ([], AtEnd)
packets_in zero (b ∷ bytes) = ([], PastLimit)
packets_in (suc n) (b ∷ bytes) =
    if is_packet (take 188 (b ∷ bytes)) then and_packet (take 188 (b ∷ bytes)) (packets_in n (drop 188 (b ∷ bytes))) else ([], Broken)

-- the packets of a whole recording, and how it stops
abbrev pub recording : List ℕ → List (List ℕ) × RecordingEnd
recording bytes = packets_in packet_limit bytes
