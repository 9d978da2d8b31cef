-- Laws of what is found.
use Rattle.std.specs.Prelude.{◌≡◌, ◌≢◌, ◌⊎◌, ℕ, ◌<◌, ◌≤◌, List, [], ◌∷◌, ◌++◌, length, drop, slice_index, map, true, None}
use Rattle.std.specs.List.{AllByRecursion}
use Rattle.packet_reader.specs.Recordings.{RecordingEnd.AtEnd, RecordingEnd.Broken, is_packet, packet_limit, recording}
use Rattle.packet_finder.specs.Pieces.{Piece, Piece.Packet, Piece.Junk, and_junk, found, junk_limit, row_length, tail_here}

-- the packets of pieces
abbrev pub packets_of : List Piece → List (List ℕ)
packets_of [] = []
packets_of (Packet packet ∷ pieces) = packet ∷ packets_of pieces
packets_of (Junk n ∷ pieces) = packets_of pieces

-- Where packets are 188 bytes apart at the front, those of the recording up to its first piece that is none are the first that are found;
-- and where each piece is a packet, all.
abbrev pub FindingGoesOn : Type 0
FindingGoesOn =
    (bytes : List ℕ) → tail_here bytes ≡ 0
    → ((more : List (List ℕ)) × (packets_of (found bytes).0 ≡ (recording bytes).0 ++ more))
    × ((recording bytes).1 ≢ Broken → found bytes ≡ (map Packet (recording bytes).0, (recording bytes).1))

-- the first of pieces is no bytes passed over
abbrev pub BeginsOtherwise : List Piece → Type 0
BeginsOtherwise (Junk n ∷ pieces) = ⊥
BeginsOtherwise pieces = Unit {0}

-- The pieces and the tails of packets are these bytes, in order. Each packet is one; each stretch passed over has a byte, and no two are
-- neighbours.
abbrev pub AreBytes : List Piece → List ℕ → Type 0
AreBytes [] bytes = bytes ≡ []
AreBytes (Packet packet ∷ pieces) bytes =
    (is_packet packet ≡ true) × (tail : List ℕ) × (rest : List ℕ) × (bytes ≡ packet ++ (tail ++ rest)) × (length tail ≤ 16) × AreBytes pieces rest
AreBytes (Junk n ∷ pieces) bytes =
    (passed : List ℕ) × (rest : List ℕ) × (bytes ≡ passed ++ rest) × (n ≡ length passed) × (0 < n) × BeginsOtherwise pieces × AreBytes pieces rest

-- So are those of a recording that is found to its end.
abbrev pub BytesAreFound : Type 0
BytesAreFound = (bytes : List ℕ) → (found bytes).1 ≡ AtEnd → AreBytes (found bytes).0 bytes

abbrev pub joined : List (List ℕ) → List ℕ
joined [] = []
joined (packet ∷ packets) = packet ++ joined packets

-- Where three packets or more stand 188 bytes apart, and no row begins in the bytes before them nor a packet at the front, these bytes are
-- passed over, and the packets are found from the first on.
abbrev pub AirIsFound : Type 0
AirIsFound =
    (noise : List ℕ) (packets : List (List ℕ)) (behind : List ℕ)
    → ((i : ℕ) → i < length noise → row_length (drop i (noise ++ (joined packets ++ behind))) ≡ None)
    → (noise ≡ []) ⊎ (slice_index noise 0 ≢ 0x47) → length noise ≤ junk_limit
    → AllByRecursion (λ packet. is_packet packet ≡ true) packets → 3 ≤ length packets → length packets ≤ packet_limit
    → (more : List Piece) × ((found (noise ++ (joined packets ++ behind))).0 ≡ (and_junk (length noise) (map Packet packets, AtEnd)).0 ++ more)
