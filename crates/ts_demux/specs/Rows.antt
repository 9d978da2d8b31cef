-- Worked packets, and what is heard of them.
use Rattle.std.specs.Prelude.{◌≡◌, ℕ, List, [], ◌∷◌, ◌++◌, true, false, replicate, refl}
use Rattle.ts_packets.specs.Packets.{Piece, pieces}
use Rattle.ts_demux.specs.Hearing.{heard}
use Rattle.ts_demux.specs.Arrivals.{Arrival, Arrival.Gap, Arrival.Came, heard_of, stretches}
use Rattle.ts_demux.specs.Sections.{heard_all, heard_each}
use Rattle.ts_demux.specs.Laws.{within}

-- sections of 20, 12 and 200 bytes
abbrev pub short_section : List ℕ
short_section = 0x42 ∷ 0xF0 ∷ 0x11 ∷ replicate 17 1

abbrev pub shorter_section : List ℕ
shorter_section = 0x43 ∷ 0xF0 ∷ 0x09 ∷ replicate 9 2

abbrev pub long_section : List ℕ
long_section = 0x46 ∷ 0xF0 ∷ 0xC5 ∷ replicate 197 3

abbrev begins : List ℕ → Piece
begins payload = record { start = true; payload = payload }

abbrev goes : List ℕ → Piece
goes payload = record { start = false; payload = payload }

-- ---- one stretch

row_two : heard (begins (0 ∷ short_section ++ shorter_section ++ replicate 151 0xFF) ∷ []) ≡ short_section ∷ shorter_section ∷ []
row_two = refl

-- one that begins where another ends
row_shared : heard (begins (0 ∷ 0x46 ∷ 0xF0 ∷ 0xC5 ∷ replicate 180 3) ∷ begins (17 ∷ replicate 17 3 ++ short_section) ∷ []) ≡ long_section ∷ short_section ∷ []
row_shared = refl

-- a header that is cut after one byte
row_cut : heard (begins (0 ∷ 0x42 ∷ []) ∷ goes (0xF0 ∷ 0x11 ∷ replicate 17 1 ++ shorter_section) ∷ []) ≡ short_section ∷ []
row_cut = refl

-- a start at the first byte drops what is open; so does a pointer past the payload
row_dropped : heard (begins (0 ∷ 0x42 ∷ 0xF0 ∷ 0x11 ∷ []) ∷ begins (0 ∷ shorter_section) ∷ goes (replicate 17 1) ∷ []) ≡ shorter_section ∷ []
row_dropped = refl

row_past : heard (begins (0 ∷ 0x42 ∷ 0xF0 ∷ 0x11 ∷ []) ∷ begins (3 ∷ 1 ∷ 1 ∷ []) ∷ goes (replicate 17 1) ∷ []) ≡ []
row_past = refl

-- fill ends the packet, and so does a section_length above 4,093
row_fill : heard (begins (0 ∷ short_section ++ 0xFF ∷ shorter_section) ∷ []) ≡ short_section ∷ []
row_fill = refl

row_long : heard (begins (0 ∷ 0x46 ∷ 0xFF ∷ 0xFE ∷ shorter_section) ∷ []) ≡ []
row_long = refl

-- ---- arrivals

abbrev load : ℕ → Piece → Arrival
load counter piece = Came (record { counter = counter; piece = piece })

abbrev half : Piece
half = begins (0 ∷ 0x42 ∷ 0xF0 ∷ 0x11 ∷ replicate 9 1)

abbrev rest : Piece
rest = goes (replicate 8 1)

row_repeat : heard_of (load 15 half ∷ load 15 half ∷ load 0 rest ∷ load 0 rest ∷ []) ≡ short_section ∷ []
row_repeat = refl

row_lost : heard_of (load 0 half ∷ load 2 rest ∷ []) ≡ []
row_lost = refl

row_gap : heard_of (load 0 half ∷ Gap ∷ load 1 rest ∷ load 2 half ∷ load 3 rest ∷ []) ≡ short_section ∷ []
row_gap = refl

row_stretches : stretches (load 0 half ∷ load 1 rest ∷ load 3 rest ∷ Gap ∷ load 4 rest ∷ []) ≡ (half ∷ rest ∷ []) ∷ (rest ∷ []) ∷ (rest ∷ []) ∷ []
row_stretches = refl

-- ---- packets by their bytes

abbrev one : List ℕ
one = 0x47 ∷ 0x40 ∷ 0x11 ∷ 0x10 ∷ 0 ∷ 0x46 ∷ 0xF0 ∷ 0xC5 ∷ replicate 180 3

abbrev other : List ℕ
other = 0x47 ∷ 0x40 ∷ 0x12 ∷ 0x10 ∷ 0 ∷ short_section ++ replicate 163 0xFF

abbrev two : List ℕ
two = 0x47 ∷ 0x00 ∷ 0x11 ∷ 0x11 ∷ replicate 17 3 ++ replicate 167 0xFF

row_each : heard_each [] (one ∷ other ∷ two ∷ []) ≡ [] ∷ (record { pid = 18; bytes = short_section } ∷ []) ∷ (record { pid = 17; bytes = long_section } ∷ []) ∷ []
row_each = refl

row_behind : heard_all (one ∷ []) (two ∷ []) ≡ record { pid = 17; bytes = long_section } ∷ []
row_behind = refl

-- ---- parts of packets that carry sections

abbrev groups : List (List (List ℕ))
groups = (long_section ∷ []) ∷ (short_section ∷ shorter_section ∷ []) ∷ []

row_carried : heard (pieces [] groups) ≡ long_section ∷ short_section ∷ shorter_section ∷ []
row_carried = refl

row_within : within 1 2 groups ≡ short_section ∷ shorter_section ∷ []
row_within = refl

row_open : within 0 1 groups ≡ []
row_open = refl
