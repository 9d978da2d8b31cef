-- What is held of a key, by what a collector keeps of it.
use Rattle.std.specs.Prelude.{ℕ, ◌+◌, List, Bool, if◌then◌else◌, filter_map, Option, option_map}
use Rattle.std.specs.List.{flat_map}
use Rattle.section_codec.specs.declared.table.NumberedBody.{NumberedBody}
use Rattle.section_codec.specs.Contents.{numbers_from, Content}
use Rattle.section_codec.specs.Segments.{segment_of}
use Rattle.sub_collect.specs.Parts.{known_in, numbered}
use Rattle.sub_collect.specs.declared.parts.Part.{Part}
use Rattle.sub_collect.specs.declared.parts.Part.TheVariants.{Whole, Held}

-- the sections of a part
abbrev pub content_of : Part → Content
content_of (Whole sections) = sections.now
content_of (Held sections) = sections

-- the needed numbers that are known, by the last number of each segment and that of the table
abbrev pub known_by : Bool → (ℕ → Option ℕ) → ℕ → List ℕ
known_by segmented lasts last =
    if segmented then flat_map (known_in lasts) (numbers_from 0 (1 + segment_of last)) else numbers_from 0 (1 + last)

abbrev pub part_by : (ℕ → Option (List ℕ)) → ℕ → Option NumberedBody
part_by bodies n = option_map (numbered n) (bodies n)

-- what is held of these numbers
abbrev pub held_by : (ℕ → Option (List ℕ)) → List ℕ → Content
held_by bodies ns = filter_map (part_by bodies) ns
