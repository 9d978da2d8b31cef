-- The map behind a collector, as what it keeps.
use Rattle.std.specs.Prelude.{ℕ, ◌+◌, List, [], ◌∷◌, ◌==◌, bytes_eq, Bool, true, false, if◌then◌else◌, map, Option, Some, None}
use Rattle.section_codec.specs.declared.table.Key.{Key}
use Rattle.section_codec.specs.Contents.{numbers_from, Content}
use Rattle.section_codec.specs.Segments.{segment_of, table_needs}
use Rattle.sub_collect.specs.Completions.{repeats}
use Rattle.sub_collect.specs.Collectors.{KeptRun, KeyHeard, KeysHeard}
use Rattle.sub_collect.specs.declared.completed.Completed.{Completed}
use Rattle.sub_collect.specs.declared.run.Run.{Run}
use Rattle.sub_collect.specs.declared.collector.KeySlot.{KeySlot}

abbrev pub kept_run : Run → KeptRun
kept_run run = record { version = run.version; last = run.last; held = run.held.entries; front = run.front; lasts = run.lasts }

abbrev pub kept_by : KeySlot → KeyHeard
kept_by slot = record { run = kept_run slot.run; latest = slot.latest }

abbrev pub shown : List (Key × KeySlot) → KeysHeard
shown entries = map (λ (entry : Key × KeySlot). (entry.0, kept_by entry.1)) entries

-- what is held of a number once this body is put under that one
abbrev pub held_with : (ℕ → Option (List ℕ)) → ℕ → List ℕ → ℕ → Option (List ℕ)
held_with held number body n = if n == number then Some body else held n

abbrev pub is_body : Option (List ℕ) → List ℕ → Bool
is_body None body = false
is_body (Some held) body = bytes_eq held body

-- whether two sections tell the same last number of their segment, or neither tells one
abbrev pub same_last : Option ℕ → Option ℕ → Bool
same_last None None = true
same_last None (Some b) = false
same_last (Some a) None = false
same_last (Some a) (Some b) = a == b

abbrev pub with_body : ℕ → Option (List ℕ) → Option Content → Option Content
with_body n None rest = None
with_body n (Some body) None = None
with_body n (Some body) (Some parts) = Some (record { number = n; body = body } ∷ parts)

-- for each of these numbers the body that is held of it; None where one is not
abbrev pub content_by : (ℕ → Option (List ℕ)) → List ℕ → Option Content
content_by held [] = Some []
content_by held (n ∷ ns) = with_body n (held n) (content_by held ns)

-- the last number that is told of a segment once a section with this number tells one, or none
abbrev pub told_with : (ℕ → Option ℕ) → ℕ → Option ℕ → ℕ → Option ℕ
told_with lasts number told segment = if segment_of number == segment then told else lasts segment

-- the needed numbers, by the last number of each segment and that of the table
abbrev pub needed_by : Bool → (ℕ → Option ℕ) → ℕ → Option (List ℕ)
needed_by segmented lasts last = if segmented then table_needs lasts last else Some (numbers_from 0 (1 + last))

-- what is held of the needed numbers
abbrev pub whole_by : (ℕ → Option (List ℕ)) → Option (List ℕ) → Option Content
whole_by held None = None
whole_by held (Some ns) = content_by held ns

-- the latest completion, once there is a completion or none
abbrev pub latest_with_done : Option Completed → Option Completed → Option Completed
latest_with_done latest None = latest
latest_with_done None (Some d) = Some d
latest_with_done (Some before) (Some d) = if repeats before d then Some before else Some d
