-- The bytes of a section, and the section that bytes are (ISO/IEC 13818-1, 2.4.4; EN 300 468, 5.1.1).
use Rattle.std.specs.Prelude.{◌≡◌, ℕ, ◌+◌, ◌-◌, ◌*◌, ◌/◌, ◌%◌, ◌<◌, ◌≤◌, Bool, false, not, ◌==◌, ◌&&◌, ◌||◌, if◌then◌else◌, nat_le, List, ◌∷◌, ◌++◌, length, take, drop, slice_index, Result, Ok, Err}
use Rattle.si_base.specs.Fields.{two, four, two_at, four_at}
use Rattle.si_base.specs.Crc.{crc_of}
use Rattle.section_codec.specs.Tables.{is_eit, has_long_form, has_short_form}
use Rattle.section_codec.specs.declared.section.LongHeader.{LongHeader}
use Rattle.section_codec.specs.declared.section.Section.{Section}
use Rattle.section_codec.specs.declared.section.Section.TheVariants.{Long, Short}
use Rattle.section_codec.specs.declared.section.BadSection.{BadSection}
use Rattle.section_codec.specs.declared.section.BadSection.TheVariants.{Length, Crc, Syntax}

-- ---- written

-- the second and third byte of the long form, less section_length: section_syntax_indicator 1, then a bit
-- that is 0 in PAT and PMT and 1 in the tables of DVB, then two reserved bits
abbrev pub long_flags : ℕ → ℕ
long_flags table = if table == 0x00 || table == 0x02 then 0xB000 else 0xF000

abbrev pub current_bit : Bool → ℕ
current_bit current = if current then 1 else 0

-- a section in the long form up to its CRC; section_length counts what stands behind it, the CRC too
abbrev pub before_crc : LongHeader → List ℕ → List ℕ
before_crc h body =
    h.table ∷ two (long_flags h.table + (9 + length body)) ++ two h.ext
    ++ (0xC0 + 2 * h.version + current_bit h.current) ∷ h.number ∷ h.last ∷ body

-- a section in the long form
abbrev pub section_bytes : LongHeader → List ℕ → List ℕ
section_bytes h body = before_crc h body ++ four (crc_of (before_crc h body))

-- a section in the short form: section_syntax_indicator 0, the next bit 1, two reserved bits, and no CRC
abbrev pub short_bytes : ℕ → List ℕ → List ℕ
short_bytes table body = table ∷ two (0x7000 + length body) ++ body

-- a section of the TOT, which has the short form with a CRC: up to the CRC, and whole
abbrev pub before_short_crc : ℕ → List ℕ → List ℕ
before_short_crc table body = table ∷ two (0x7000 + (4 + length body)) ++ body

abbrev pub short_crc_bytes : ℕ → List ℕ → List ℕ
short_crc_bytes table body = before_short_crc table body ++ four (crc_of (before_short_crc table body))

-- the longest body in the long form: sections of EIT have at most 4,096 bytes, others 1,024
abbrev pub longest_body : ℕ → ℕ
longest_body table = if is_eit table then 4084 else 1012

-- ---- read: fields by their places; reserved bits may have any value

-- section_syntax_indicator
abbrev pub is_long : List ℕ → Bool
is_long bytes = slice_index bytes 1 / 128 % 2 == 1

abbrev pub section_length : List ℕ → ℕ
section_length bytes = two_at 1 bytes % 4096

abbrev pub long_header : List ℕ → LongHeader
long_header bytes = record {
  table = slice_index bytes 0;
  ext = two_at 3 bytes;
  version = slice_index bytes 5 / 2 % 32;
  current = slice_index bytes 5 % 2 == 1;
  number = slice_index bytes 6;
  last = slice_index bytes 7;
}

-- what stands between the header and the CRC
abbrev pub long_body : List ℕ → List ℕ
long_body bytes = take (length bytes - 12) (drop 8 bytes)

-- the CRC that a section keeps in its last four bytes, and the one that is found over those before
abbrev pub kept_crc : List ℕ → ℕ
kept_crc bytes = four_at (length bytes - 4) bytes

abbrev pub found_crc : List ℕ → ℕ
found_crc bytes = crc_of (take (length bytes - 4) bytes)

-- the table is the TOT, whose sections have a CRC in the short form
abbrev pub is_tot : List ℕ → Bool
is_tot bytes = slice_index bytes 0 == 0x73

-- how many bytes a section has at least: with its header and its CRC 12 in the long form, and 7 of the TOT
abbrev pub least : List ℕ → ℕ
least bytes = if is_long bytes then 12 else if is_tot bytes then 7 else 3

-- the bytes are just those that section_length tells: 3 to 4,096, in the long form at least 12, of the TOT at least 7
abbrev pub has_its_length : List ℕ → Bool
has_its_length bytes =
    nat_le 3 (length bytes) && length bytes == 3 + section_length bytes && nat_le (length bytes) 4096
    && nat_le (least bytes) (length bytes)

abbrev pub has_its_crc : List ℕ → Bool
has_its_crc bytes = not (is_long bytes || is_tot bytes) || kept_crc bytes == found_crc bytes

-- in the long form the table is neither the TDT nor the TOT, and the number is not above the last
abbrev pub has_long_syntax : List ℕ → Bool
has_long_syntax bytes = not (has_short_form (slice_index bytes 0)) && nat_le (slice_index bytes 6) (slice_index bytes 7)

-- in the short form the table is none of those that have the long form
abbrev pub has_its_syntax : List ℕ → Bool
has_its_syntax bytes = if is_long bytes then has_long_syntax bytes else not (has_long_form (slice_index bytes 0))

-- what stands behind the header of the short form, and before the CRC where there is one
abbrev pub short_body : List ℕ → List ℕ
short_body bytes = if is_tot bytes then take (length bytes - 7) (drop 3 bytes) else drop 3 bytes

abbrev pub section_of : List ℕ → Section
section_of bytes =
    if is_long bytes then Long (long_header bytes) (long_body bytes)
    else Short (slice_index bytes 0) (short_body bytes)

-- the section that these bytes are, or the first reason why they are none
abbrev pub section_in : List ℕ → Result Section BadSection
section_in bytes =
    if not (has_its_length bytes) then Err Length
    else if not (has_its_crc bytes) then Err (Crc (kept_crc bytes) (found_crc bytes))
    else if not (has_its_syntax bytes) then Err Syntax
    else Ok (section_of bytes)

-- ---- laws

-- a header and a body that fit their fields and have the long form
pub record FitsLong (h : LongHeader) (body : List ℕ) : Type 0 where
  pub table : h.table < 256
  pub form : has_short_form h.table ≡ false
  pub ext : h.ext < 65536
  pub version : h.version < 32
  pub number : h.number ≤ h.last
  pub last : h.last < 256
  pub within : length body ≤ longest_body h.table

-- a table_id and a body that fit their fields and have the short form without a CRC
pub record FitsShort (table : ℕ) (body : List ℕ) : Type 0 where
  pub fits : table < 256
  pub form : has_long_form table ≡ false
  pub no_crc : (table == 0x73) ≡ false
  pub within : length body ≤ 4093

-- Reading a written section gives it back.
abbrev pub LongReadsBack : Type 0
LongReadsBack = (h : LongHeader) (body : List ℕ) → FitsLong h body → section_in (section_bytes h body) ≡ Ok (Long h body)

abbrev pub ShortReadsBack : Type 0
ShortReadsBack = (table : ℕ) (body : List ℕ) → FitsShort table body → section_in (short_bytes table body) ≡ Ok (Short table body)

-- So does reading a written TOT.
abbrev pub TotReadsBack : Type 0
TotReadsBack = (body : List ℕ) → length body ≤ 4089 → section_in (short_crc_bytes 0x73 body) ≡ Ok (Short 0x73 body)
