-- The packets found in a recording that may be damaged (ISO/IEC 13818-1, 2.4.3.2 and 2.4.3.3), and how many bytes were passed over between
-- them. They are 188 bytes apart, 192 (each with a time stamp of 4 bytes before it), or 204 (each with 16 check bytes behind it).
use Rattle.std.specs.Prelude.{◌≡◌, ◌⊎◌, ℕ, zero, suc, ◌+◌, ◌-◌, ◌*◌, ◌==◌, ◌&&◌, ◌||◌, Bool, true, false, List, [], ◌∷◌, length, take, drop, slice_index, nat_le, nat_lt, find, is_some, Option, Some, None, unwrap_or, if◌then◌else◌}
use Rattle.packet_reader.specs.Recordings.{RecordingEnd, RecordingEnd.AtEnd, RecordingEnd.PastLimit, is_packet, packet_limit}

-- what is found: a packet, or so many bytes that are passed over
pub data Piece : Type 0 where
  Packet : List ℕ → Piece
  Junk : ℕ → Piece

-- pieces, and how the recording stops
abbrev pub Findings : Type 0
Findings = List Piece × RecordingEnd

-- ---- rows

-- a sync byte stands n bytes on, or the bytes end before
abbrev pub sync_at : ℕ → List ℕ → Bool
sync_at n bytes = nat_le (length bytes) n || slice_index bytes n == 0x47

-- A row begins here: a packet is there, and it and the next two places that lie this far apart have a sync byte, or are behind the end.
abbrev pub is_row : ℕ → List ℕ → Bool
is_row apart bytes = nat_le 188 (length bytes) && (sync_at 0 bytes && (sync_at apart bytes && sync_at (2 * apart) bytes))

-- how far apart the packets of the row are that begins here, where one does
unfoldable pub row_length : List ℕ → Option ℕ
row_length bytes = find (λ apart. is_row apart bytes) (188 ∷ 192 ∷ 204 ∷ [])

-- how many bytes stand before the first row, or all
abbrev pub before_row : List ℕ → ℕ
before_row [] = 0
before_row (b ∷ bytes) = if is_some (row_length (b ∷ bytes)) then 0 else suc (before_row bytes)

-- how many bytes stand behind each packet from here on: by the row that begins here, or none
abbrev pub tail_here : List ℕ → ℕ
tail_here bytes = unwrap_or (row_length bytes) 188 - 188

-- ---- packets in sync. The bytes are those behind a packet, and the tail says how many stand between it and the next; it is None before the
-- first packet, and before the first one behind bytes that were passed over.

-- the bytes from the next place of a packet on
abbrev pub next_place : Option ℕ → List ℕ → List ℕ
next_place tail bytes = drop (unwrap_or tail 0) bytes

-- how many bytes it takes to judge the next place: two more sync bytes are looked at where the length of a row is sought
abbrev pub needed : Option ℕ → ℕ
needed None = 409
needed (Some tail) = tail + 188

-- No more is to be found: at the end of the source where but for a tail no byte is left, and before it where too few have come.
abbrev pub is_over : Bool → Option ℕ → List ℕ → Bool
is_over ended tail bytes = if ended then nat_le (length bytes) (unwrap_or tail 0) else nat_lt (length bytes) (needed tail)

abbrev pub and_piece : Piece → Findings → Findings
and_piece piece found = (piece ∷ found.0, found.1)

-- where nothing was passed over, nothing is reported
abbrev pub and_junk : ℕ → Findings → Findings
and_junk zero found = found
and_junk (suc n) found = and_piece (Junk (suc n)) found

-- the packet that begins here, and what is found behind it
abbrev pub packet_then : (Option ℕ → List ℕ → Findings) → ℕ → List ℕ → Findings
packet_then find_on tail bytes = and_piece (Packet (take 188 bytes)) (find_on (Some tail) (drop 188 bytes))

-- how many bytes may be passed over in one stretch
abbrev pub junk_limit : ℕ
junk_limit = 18446744073709551615

-- Sync was lost: n bytes are passed over to the rest, in which a row is the first, or no byte.
abbrev pub sought : Bool → (Option ℕ → List ℕ → Findings) → ℕ → List ℕ → Findings
sought ended find_on n rest =
    if nat_lt junk_limit n then ([], PastLimit)
    else if is_over ended None rest then (if ended then and_junk n ([], AtEnd) else ([], AtEnd))
    else and_junk n (packet_then find_on (tail_here rest) rest)

-- What is found in these bytes, and how they stop: of all that the source gives (`ended`), or of what has come of it. n packets may come.
-- In sync a piece is a packet by its sync byte alone. Where the next one is none, a row is sought from here on.
unfoldable pub found_in : Bool → ℕ → Option ℕ → List ℕ → Findings
found_in ended zero tail bytes = ([], if is_over ended tail bytes then AtEnd else PastLimit)
found_in ended (suc n) tail bytes =
    if is_over ended tail bytes then ([], AtEnd)
    else if is_packet (take 188 (next_place tail bytes)) then packet_then (found_in ended n) (unwrap_or tail (tail_here bytes)) (next_place tail bytes)
    else sought ended (found_in ended n) (before_row bytes) (drop (before_row bytes) bytes)

-- what is found in a whole recording
abbrev pub found : List ℕ → Findings
found bytes = found_in true packet_limit None bytes

-- what is found in the bytes of a recording that have come, whatever comes behind them
abbrev pub found_so_far : List ℕ → List Piece
found_so_far bytes = (found_in false packet_limit None bytes).0

-- a packet begins here, or the source ended
abbrev pub BeginsOrEnds : Bool → List ℕ → Type 0
BeginsOrEnds ended bytes = (is_packet (take 188 bytes) ≡ true) ⊎ ((ended ≡ true) × (bytes ≡ []))
