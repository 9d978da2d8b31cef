-- The pieces of a recording as `listen` takes it: with `--resync` those that are found in it, and else its packets.
use Rattle.std.specs.Prelude.{Bool, true, false, List, [], ◌∷◌, ℕ, map}
use Rattle.packet_reader.specs.Recordings.{RecordingEnd, RecordingEnd.AtEnd, RecordingEnd.Broken, recording}
use Rattle.packet_finder.specs.Pieces.{Findings, Piece, Piece.Packet, found, found_so_far}
use Rattle.packet_finder.specs.Laws.{packets_of}

-- a recording that has a piece and no packet is broken
abbrev pub or_broken : List Piece → List (List ℕ) → RecordingEnd
or_broken (piece ∷ pieces) [] = Broken
or_broken pieces packets = AtEnd

-- how a recording stops in which this is found
abbrev pub end_of : Findings → RecordingEnd
end_of (pieces, AtEnd) = or_broken pieces (packets_of pieces)
end_of (pieces, end) = end

-- the pieces of a whole recording, and how it stops
abbrev pub pieces_in : Bool → List ℕ → Findings
pieces_in true bytes = ((found bytes).0, end_of (found bytes))
pieces_in false bytes = (map Packet (recording bytes).0, (recording bytes).1)

-- the pieces that are settled in the bytes of a recording that have come
abbrev pub pieces_taken : Bool → List ℕ → List Piece
pieces_taken true bytes = found_so_far bytes
pieces_taken false bytes = map Packet (recording bytes).0
