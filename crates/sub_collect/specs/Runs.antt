-- The sections that count for a key, their run, and what it completes (ISO/IEC 13818-1, 2.4.4; EN 300 468, 5.1.1 and 5.2.4).
use Rattle.std.specs.Prelude.{ℕ, ◌+◌, List, [], ◌∷◌, Bool, true, ◌&&◌, ◌==◌, if◌then◌else◌, filter, Option, Some, None}
use Rattle.section_codec.specs.declared.table.Key.{Key}
use Rattle.section_codec.specs.Tables.{is_eit}
use Rattle.section_codec.specs.Contents.{numbers_from, Content}
use Rattle.section_codec.specs.Segments.{segment_of, segment_last_in, table_needs}
use Rattle.section_codec.specs.declared.section.LongHeader.{LongHeader}

-- a section that counts: its key, version_number, section_number, last_section_number and body
pub record Counted : Type 0 where
  pub key : Key
  pub version : ℕ
  pub number : ℕ
  pub last : ℕ
  pub body : List ℕ

-- the section of a key with this header and body
abbrev pub counted : Key → LongHeader → List ℕ → Counted
counted k h body = record { key = k; version = h.version; number = h.number; last = h.last; body = body }

abbrev pub all_of_version : ℕ → List Counted → Bool
all_of_version v [] = true
all_of_version v (s ∷ ss) = (s.version == v) && all_of_version v ss

abbrev pub is_one_version : List Counted → Bool
is_one_version [] = true
is_one_version (s ∷ ss) = all_of_version s.version ss

-- the run: the longest suffix in which all have one version
abbrev pub run_of : List Counted → List Counted
run_of [] = []
run_of (s ∷ ss) = if is_one_version (s ∷ ss) then s ∷ ss else run_of ss

-- the latest section
abbrev pub latest_section : List Counted → Option Counted
latest_section [] = None
latest_section (s ∷ []) = Some s
latest_section (s ∷ t ∷ ss) = latest_section (t ∷ ss)

-- the last number of its own segment that a section of an event information table tells; those of other tables tell none
abbrev pub segment_last_of : Counted → Option ℕ
segment_last_of s = if is_eit s.key.table then segment_last_in s.number s.body else None

abbrev pub last_told_by : Option Counted → Option ℕ
last_told_by None = None
last_told_by (Some s) = segment_last_of s

abbrev pub is_in_segment : ℕ → Counted → Bool
is_in_segment segment s = segment_of s.number == segment

-- the last number of a segment, as the latest section of the segment tells it
abbrev pub last_told : List Counted → ℕ → Option ℕ
last_told run segment = last_told_by (latest_section (filter (is_in_segment segment) run))

-- the needed numbers, by the latest section: of an event information table those of its segments, else 0 to its last_section_number
abbrev pub needed_at : List Counted → Option Counted → Option (List ℕ)
needed_at run None = None
needed_at run (Some s) = if is_eit s.key.table then table_needs (last_told run) s.last else Some (numbers_from 0 (1 + s.last))

-- the numbers that a run has to hold; None where they are not known, as of no section or where a segment was not met
abbrev pub needed : List Counted → Option (List ℕ)
needed run = needed_at run (latest_section run)

abbrev pub has_number : ℕ → Counted → Bool
has_number n s = s.number == n

-- the latest section with this number
abbrev pub latest_with : ℕ → List Counted → Option Counted
latest_with n run = latest_section (filter (has_number n) run)

abbrev pub with_part : ℕ → Option Counted → Option Content → Option Content
with_part n None rest = None
with_part n (Some s) None = None
with_part n (Some s) (Some parts) = Some (record { number = n; body = s.body } ∷ parts)

-- for each of these numbers the body of the run's latest section with it; None where one was not heard
abbrev pub gathered : List Counted → List ℕ → Option Content
gathered run [] = Some []
gathered run (n ∷ ns) = with_part n (latest_with n run) (gathered run ns)

abbrev pub gathered_at : List Counted → Option (List ℕ) → Option Content
gathered_at run None = None
gathered_at run (Some ns) = gathered run ns

-- the content that a run has whole
abbrev pub whole : List Counted → Option Content
whole run = gathered_at run (needed run)

-- what sections of one key, heard in this order, complete at the last of them
abbrev pub completed : List Counted → Option Content
completed heard = whole (run_of heard)
