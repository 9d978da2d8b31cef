-- Worked airing lists, and worked packets that are joined.
use Rattle.std.specs.Prelude.{◌≡◌, ℕ, zero, suc, ◌%◌, List, [], ◌∷◌, ◌++◌, drop, replicate, slice_index, refl}
use Rattle.section_codec.specs.declared.table.Key.{Key}
use Rattle.section_codec.specs.declared.table.SubTable.{SubTable}
use Rattle.section_codec.specs.declared.table.Tier3.TheVariants.{Fast}
use Rattle.section_codec.specs.Contents.{Content}
use Rattle.version_book.specs.Airings.{AiredTables}
use Rattle.ts_packets.specs.Packets.{Piece, piece_of}
use Rattle.ts_packets.specs.Bytes.{Packet}
use Rattle.air_laws.specs.Versions.{version_behind, changes_behind, ShareVersion}
use Rattle.air_laws.specs.Joining.{count_before, heard_between}

-- ---- versions

abbrev sdt : Key
sdt = record { pid = 17; table = 66; ext = 1; stream = 0; network = 1 }

abbrev of : ℕ → SubTable
of b = record { key = sdt; tier = Fast; sections = record { number = 0; body = b ∷ [] } ∷ [] }

abbrev airs : ℕ → AiredTables
airs b = record { tables = of b ∷ []; moment = 0; form = record { quota = 200; offsets = [] } }

-- n airings, each with another content than the one before
abbrev turns : ℕ → List AiredTables
turns zero = []
turns (suc n) = turns n ++ airs (n % 2) ∷ []

-- the first content has version 0; so has another one, 32 changes later
row_first : version_behind sdt [] (airs 0) ≡ 0
row_first = refl

row_wrapped : version_behind sdt (turns 32) (airs 7) ≡ 0
row_wrapped = refl

row_changes : changes_behind sdt (turns 32) (airs 7) ≡ 32
row_changes = refl

abbrev first_byte : Content → ℕ
first_byte [] = 0
first_byte (s ∷ ss) = slice_index s.body 0

-- these two share a version
row_share : ShareVersion sdt [] (airs 0) (drop 1 (turns 32)) (airs 7)
row_share = record {
  one = (of 0).sections;
  other = (of 7).sections;
  first = refl;
  second = refl;
  differ = λ e. (let apart : 0 ≡ 7 = λ i. first_byte (e i) in cc);
  version = refl;
}

-- the same content keeps version and changes
row_same : changes_behind sdt (airs 5 ∷ []) (airs 5) ≡ 0
row_same = refl

-- ---- packets

-- sections of 20, 12 and 200 bytes
abbrev short_section : List ℕ
short_section = 0x42 ∷ 0xF0 ∷ 0x11 ∷ replicate 17 1

abbrev shorter_section : List ℕ
shorter_section = 0x43 ∷ 0xF0 ∷ 0x09 ∷ replicate 9 2

abbrev long_section : List ℕ
long_section = 0x46 ∷ 0xF0 ∷ 0xC5 ∷ replicate 197 3

abbrev on : ℕ → ℕ → Piece → Packet
on pid counter piece = record { pid = pid; counter = counter; piece = piece }

-- on PID 17 a long section goes on in the packet in which two others begin, and a packet of PID 18 stands between
abbrev packets : List Packet
packets =
    on 17 0 (piece_of [] (long_section ∷ [])) ∷ on 18 0 (piece_of [] (short_section ∷ []))
    ∷ on 17 1 (piece_of (drop 183 long_section) (short_section ∷ shorter_section ∷ [])) ∷ []

row_count : count_before 17 packets 2 ≡ 1
row_count = refl

row_all : heard_between 0 3 17 packets ≡ long_section ∷ short_section ∷ shorter_section ∷ []
row_all = refl

-- joined behind its first byte, or left before its last one, the long section is not heard
row_joined : heard_between 1 3 17 packets ≡ short_section ∷ shorter_section ∷ []
row_joined = refl

row_left : heard_between 0 2 17 packets ≡ []
row_left = refl

row_other : heard_between 1 2 18 packets ≡ short_section ∷ []
row_other = refl
