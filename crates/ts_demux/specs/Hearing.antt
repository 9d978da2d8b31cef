-- The sections that are heard of one stretch of packets of a PID: of packets that follow each other with no gap
-- between (ISO/IEC 13818-1, 2.4.4).
use Rattle.std.specs.Prelude.{◌≡◌, ℕ, zero, suc, ◌+◌, ◌*◌, ◌%◌, ◌≤◌, ◌≢◌, List, [], ◌∷◌, ◌++◌, Bool, ◌&&◌, ◌==◌, if◌then◌else◌, nat_le, length, take, drop}
use Rattle.ts_packets.specs.Packets.{Piece}

-- the bytes of a section by its header: its first three, and as many as section_length tells; 0 where the header is cut
abbrev pub size_in : List ℕ → ℕ
size_in [] = 0
size_in (a ∷ []) = 0
size_in (a ∷ b ∷ []) = 0
size_in (a ∷ b ∷ c ∷ more) = 3 + ((b % 16) * 256 + c)

-- A section stands whole at the front of these bytes. Its section_length is at most 4,093.
abbrev pub is_whole : List ℕ → Bool
is_whole bytes = nat_le 3 (length bytes) && (nat_le (size_in bytes) 4096 && nat_le (size_in bytes) (length bytes))

-- The sections that begin in these bytes of a packet, one behind the other, and are whole where later bytes follow the
-- packet. None begins behind the packet's end, where a section would begin with 0xFF, or behind one that is not whole.
-- n bounds their number.
abbrev pub begun : ℕ → List ℕ → List ℕ → List (List ℕ)
begun zero here later = []
begun (suc n) [] later = []
begun (suc n) (b ∷ here) later =
    if b == 255 then []
    else if is_whole (b ∷ here ++ later)
    then take (size_in (b ∷ here ++ later)) (b ∷ here ++ later) ∷ begun n (drop (size_in (b ∷ here ++ later)) (b ∷ here)) later
    else []

-- the bytes that a start packet's pointer_field passes over, where it stays in the payload
abbrev pub passed_over : List ℕ → List ℕ
passed_over [] = []
passed_over (p ∷ bytes) = if nat_le p (length bytes) then take p bytes else []

-- what these packets go on with before a section begins: up to the next start packet, and the bytes that its pointer passes over
abbrev pub goes_on : List Piece → List ℕ
goes_on [] = []
goes_on (p ∷ ps) = if p.start then passed_over p.payload else p.payload ++ goes_on ps

-- the sections that begin behind a pointer_field that stays in the payload
abbrev pub behind_pointer : List ℕ → List ℕ → List (List ℕ)
behind_pointer [] later = []
behind_pointer (p ∷ bytes) later = if nat_le p (length bytes) then begun (length bytes) (drop p bytes) later else []

-- the sections that begin in a packet and are heard where these bytes go on with them
abbrev pub begun_in : Piece → List ℕ → List (List ℕ)
begun_in p later = if p.start then behind_pointer p.payload later else []

-- The sections heard of a stretch: those that begin in each packet, as far as the packets behind it make them whole.
abbrev pub heard : List Piece → List (List ℕ)
heard [] = []
heard (p ∷ ps) = begun_in p (goes_on ps) ++ heard ps

-- a section as it is written: its header tells its length, and it does not begin as fill does
pub record IsSection (s : List ℕ) : Type 0 where
  pub header : 3 ≤ length s
  pub most : length s ≤ 4096
  pub size : size_in s ≡ length s
  pub no_fill : (b : ℕ) (more : List ℕ) → s ≡ b ∷ more → b ≢ 255
