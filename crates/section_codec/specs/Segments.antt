-- The segments of an event information table: its section numbers go by eights, and each section tells the last number of its segment (EN 300 468, 5.2.4).
use Rattle.std.specs.Prelude.{◌≡◌, ℕ, zero, suc, ◌+◌, ◌-◌, ◌*◌, ◌/◌, ◌<◌, ◌==◌, if◌then◌else◌, List, [], ◌++◌, length, find, Option, Some, None, option_map}
use Rattle.std.specs.List.{AllByRecursion}
use Rattle.section_codec.specs.declared.table.NumberedBody.{NumberedBody}
use Rattle.section_codec.specs.Contents.{numbers_from, numbers, last_number, Ascend}
use Rattle.section_codec.specs.Keys.{eit_numbers_in}

-- the segment of a section, by its number
abbrev pub segment_of : ℕ → ℕ
segment_of number = number / 8

abbrev pub last_beside : ℕ → Option (ℕ × ℕ) → Option ℕ
last_beside number None = None
last_beside number (Some told) = if segment_of told.0 == segment_of number then Some told.0 else None

-- the segment_last_section_number that a section tells, by its number and its body, where that is of the section's own segment
abbrev pub segment_last_in : ℕ → List ℕ → Option ℕ
segment_last_in number body = last_beside number (eit_numbers_in body)

-- the numbers of a segment from its first one to this last one
abbrev pub numbers_in_segment : ℕ → ℕ → List ℕ
numbers_in_segment segment last = numbers_from (8 * segment) (1 + last - 8 * segment)

-- these numbers, and then more, where both are known
abbrev pub and_numbers : Option (List ℕ) → Option (List ℕ) → Option (List ℕ)
and_numbers None more = None
and_numbers (Some ns) more = option_map (λ ms. ns ++ ms) more

-- the numbers that a receiver needs of so many segments from one on, by the last number of each; None where one of these is not known
abbrev pub segments_need : (ℕ → Option ℕ) → ℕ → ℕ → Option (List ℕ)
segments_need last_of segment zero = Some []
segments_need last_of segment (suc many) = and_numbers (option_map (numbers_in_segment segment) (last_of segment)) (segments_need last_of (1 + segment) many)

-- the numbers that a receiver needs of a table with this last_section_number: of each segment up to that of the last number those up to the segment's own last one
abbrev pub table_needs : (ℕ → Option ℕ) → ℕ → Option (List ℕ)
table_needs last_of last = segments_need last_of 0 (1 + segment_of last)

-- ---- a content that goes by segments

-- the last number of its segment that a section tells
abbrev pub told_by : Option NumberedBody → Option ℕ
told_by None = None
told_by (Some s) = segment_last_in s.number s.body

-- the last number of a segment, as its first section tells it
abbrev pub segment_last_at : List NumberedBody → ℕ → Option ℕ
segment_last_at sections segment = told_by (find (λ (s : NumberedBody). segment_of s.number == segment) sections)

-- Sections go by segments: their numbers ascend and are just those that their segments need, and those of a segment tell one last number.
pub record GoBySegments (sections : List NumberedBody) : Type 0 where
  pub some : 0 < length sections
  pub ascending : Ascend sections
  pub needed : table_needs (segment_last_at sections) (last_number sections) ≡ Some (numbers sections)
  pub agree : AllByRecursion (λ (s : NumberedBody). segment_last_in s.number s.body ≡ segment_last_at sections (segment_of s.number)) sections
