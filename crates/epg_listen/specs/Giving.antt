-- What a reader of pieces gives, one after another.
use Rattle.std.specs.Prelude.{◌≡◌, ℕ, ◌+◌, ◌*◌, ◌-◌, ◌++◌, Bool, true, false, List, [], ◌∷◌, length, map, slice_index, Option, Some, None, Ok, Err, Result, if◌then◌else◌}
use Rattle.std.specs.Io.KnownBytes.{IsAtEnd}
use Rattle.packet_reader.specs.Recordings.{RecordingEnd.AtEnd, RecordingEnd.Broken, RecordingEnd.PastLimit, packet_limit, packets_in, recording}
use Rattle.packet_reader.specs.Reading.{PacketReading, packets_to_come}
use Rattle.packet_reader.specs.Reading as reading
use Rattle.packet_reader.specs.declared.stop.PacketStop.{PacketStop}
use Rattle.packet_reader.specs.declared.stop.PacketStop.TheVariants as stop
use Rattle.packet_finder.specs.Pieces.{Piece, Piece.Packet, found, found_so_far}
use Rattle.packet_finder.specs.Laws.{packets_of}
use Rattle.packet_finder.specs.Finding.{Finding, piece_of, bytes_left, to_find}
use Rattle.packet_finder.specs.declared.found.Found.{Found}
use Rattle.packet_finder.specs.declared.found.Found.TheVariants as was
use Rattle.epg_listen.specs.Pieces.{pieces_in, pieces_taken}
use Rattle.epg_listen.specs.Leaves.{WasTaken, WereTaken}

-- a packet has the number of those before it
abbrev pub IsNumbered : List Piece → Found → Type 0
IsNumbered heard (was.Packet n) = n ≡ length (packets_of heard)
IsNumbered heard (was.Junk count) = Unit {0}

-- What a call gives after these pieces of a recording: the next piece, which was taken; or all were given, and so the recording stops. Where
-- a read failed, those were given that are settled in the bytes taken.
abbrev pub Gives : Bool → List ℕ → Option (List ℕ) → (List Piece → Type 0) → List ℕ → List Piece → Result (Option Found) PacketStop → Type 0
Gives resync bytes left gave packet heard (Ok (Some found)) =
    IsNumbered heard found × gave (heard ++ piece_of packet found ∷ []) × WereTaken resync bytes left (heard ++ piece_of packet found ∷ [])
Gives resync bytes left gave packet heard (Ok None) = pieces_in resync bytes ≡ (heard, AtEnd)
Gives resync bytes left gave packet heard (Err (stop.Broken n)) = (pieces_in resync bytes ≡ (heard, Broken)) × (n ≡ length (packets_of heard))
Gives resync bytes left gave packet heard (Err stop.TooLong) = pieces_in resync bytes ≡ (heard, PastLimit)
Gives resync bytes left gave packet heard (Err stop.Failed) = (taken : List ℕ) × WasTaken resync bytes left taken × (pieces_taken resync taken ≡ heard)

-- where a packet is given, these bytes are one
abbrev pub IsGivenPacket : List ℕ → Found → Type 0
IsGivenPacket packet (was.Packet n) = (length packet ≡ 188) × (slice_index packet 0 ≡ 0x47)
IsGivenPacket packet (was.Junk count) = Unit {0}

-- how many pieces a finder may still give at most: bytes are not passed over twice
abbrev pub pieces_to_come : {S : Type 0} → Finding S → ℕ
pieces_to_come finder = 2 * (packet_limit - finder.number) + (if finder.passed then 0 else 1)

-- whether there is a piece among these
abbrev pub has_piece : List Piece → Bool
has_piece [] = false
has_piece (piece ∷ pieces) = true

-- Bytes of a recording of which a reader gave these packets, and the rest, of which n packets may still come.
pub record HasParted (bytes done : List ℕ) (packets : List (List ℕ)) (n : ℕ) (rest : List ℕ) : Type 0 where
  pub parted : bytes ≡ done ++ rest
  pub size : length done ≡ 188 * length packets
  pub goes_on : (more : List ℕ) → recording (done ++ more) ≡ (packets ++ (packets_in n more).0, (packets_in n more).1)

-- A reader of packets gave these pieces of a recording of these bytes.
pub record HasRead {S : Type 0} (left : S → Option (List ℕ)) (reader : PacketReading S) (bytes : List ℕ) (heard : List Piece) : Type 0 where
  pub packets : List (List ℕ)
  pub done : List ℕ
  pub rest : List ℕ
  pub heard_are : heard ≡ map Packet packets
  pub tells : reading.bytes_left left reader ≡ Some rest
  pub parts : HasParted bytes done packets (packets_to_come reader) rest
  pub number : reader.number ≡ length packets

-- A finder of packets gave these pieces of a recording of these bytes.
pub record HasFound {S : Type 0} (left : S → Option (List ℕ)) (finder : Finding S) (bytes : List ℕ) (heard : List Piece) : Type 0 where
  pub done : List ℕ
  pub rest : List ℕ
  pub tells : bytes_left left finder ≡ Some rest
  pub parted : bytes ≡ done ++ rest
  pub found_are : found bytes ≡ (heard ++ (to_find true finder rest).0, (to_find true finder rest).1)
  pub settled : finder.ended ≡ false → (more : List ℕ)
      → found_so_far (done ++ (finder.held ++ more)) ≡ heard ++ (to_find false finder (finder.held ++ more)).0
  pub at_end : finder.ended ≡ true → IsAtEnd (left finder.source)
  pub number : finder.number ≡ length (packets_of heard)
