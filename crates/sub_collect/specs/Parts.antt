-- What is held of a key, though it may not be whole (ISO/IEC 13818-1, 2.4.4; EN 300 468, 5.1.1 and 5.2.4).
use Rattle.std.specs.Prelude.{◌≡◌, ℕ, ◌+◌, List, [], if◌then◌else◌, filter_map, Option, Some, None, option_map, unwrap_or}
use Rattle.std.specs.List.{flat_map}
use Rattle.std.specs.List.Sorted.{IsStrictlySortedBy}
use Rattle.std.specs.Set.{is_member}
use Rattle.section_codec.specs.declared.table.Key.{Key}
use Rattle.section_codec.specs.declared.table.NumberedBody.{NumberedBody}
use Rattle.section_codec.specs.Tables.{is_eit}
use Rattle.section_codec.specs.Contents.{numbers_from, Content}
use Rattle.section_codec.specs.Segments.{segment_of, numbers_in_segment}
use Rattle.section_codec.specs.KeyOrder.{is_key, key_cmp}
use Rattle.sub_collect.specs.Runs.{Counted, latest_section, last_told, latest_with, whole}
use Rattle.sub_collect.specs.Marks.{Taken, run_over, content_over, sections_taken}
use Rattle.sub_collect.specs.KeyCounts.{section_keys}

-- the needed numbers of a segment; none where its last number is not known
abbrev pub known_in : (ℕ → Option ℕ) → ℕ → List ℕ
known_in last_of segment = unwrap_or (option_map (numbers_in_segment segment) (last_of segment)) []

-- the needed numbers that are known, by the latest section: of an event information table those of each segment that was met, up to that of
-- last_section_number
abbrev pub known_at : List Counted → Option Counted → List ℕ
known_at run None = []
known_at run (Some s) =
    if is_eit s.key.table then flat_map (known_in (last_told run)) (numbers_from 0 (1 + segment_of s.last))
    else numbers_from 0 (1 + s.last)

-- the body of the run's latest section with this number
abbrev pub numbered : ℕ → List ℕ → NumberedBody
numbered n body = record { number = n; body = body }

abbrev pub part_with : List Counted → ℕ → Option NumberedBody
part_with run n = option_map (λ (s : Counted). numbered n s.body) (latest_with n run)

-- what a run holds of the needed numbers
abbrev pub held : List Counted → Content
held run = filter_map (part_with run) (known_at run (latest_section run))

-- a key's content: that of its latest completion, or else what its run holds
abbrev pub part_of : Key → List Taken → Content
part_of k past = unwrap_or (content_over past k) (held (run_over k past))

-- These are the keys that had a section, in their order, each once.
pub record AreKeysOver (past : List Taken) (keys : List Key) : Type 0 where
  pub ascend : IsStrictlySortedBy key_cmp keys
  pub each : (k : Key) → is_member is_key keys k ≡ is_member is_key (section_keys (sections_taken past)) k

-- What a run has whole, it holds.
abbrev pub WholeIsHeld : Type 0
WholeIsHeld = (run : List Counted) (content : Content) → whole run ≡ Some content → held run ≡ content
