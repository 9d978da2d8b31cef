-- AiredTables lists, and the version of a key at an airing.
use Rattle.std.specs.Prelude.{ℕ, ◌+◌, ◌%◌, List, [], ◌∷◌, if◌then◌else◌, Option, Some, None, filter_map}
use Rattle.guide_model.specs.declared.offset.Offset.{Offset}
use Rattle.section_codec.specs.declared.table.Key.{Key}
use Rattle.section_codec.specs.Contents.{Content, is_content}
use Rattle.section_codec.specs.KeyOrder.{is_key}
use Rattle.section_codec.specs.declared.table.SubTable.{SubTable}

-- What a cycle depends on besides its sub-tables and its moment: the quota, which is how many packets may come between two repeats
-- of the most frequent sections, and how far the clocks of regions are from UTC, which is sent with the moment.
pub record CycleForm : Type 0 where
  pub quota : ℕ
  pub offsets : List Offset

-- one airing: the sub-tables of the publication that goes on air, the moment of its swap in seconds, and the form of its cycle
pub record AiredTables : Type 0 where
  pub tables : List SubTable
  pub moment : ℕ
  pub form : CycleForm

-- the content of a key in a list of sub-tables
abbrev pub content_in : Key → List SubTable → Option Content
content_in k [] = None
content_in k (t ∷ ts) = if is_key k t.key then Some t.sections else content_in k ts

-- the content of a key at an airing, where the airing carries the key
abbrev pub content_at : Key → AiredTables → Option Content
content_at k a = content_in k a.tables

-- what the airings that carry the key carry, in order
abbrev pub carried : Key → List AiredTables → List Content
carried k airings = filter_map (content_at k) airings

-- how many of these contents differ from the one before
abbrev pub changes_after : Content → List Content → ℕ
changes_after c [] = 0
changes_after c (d ∷ ds) = if is_content c d then changes_after d ds else 1 + changes_after d ds

abbrev pub changes : List Content → ℕ
changes [] = 0
changes (c ∷ cs) = changes_after c cs

-- the version of a key at the last of these airings: its changes up to there, modulo 32
abbrev pub version_at : Key → List AiredTables → ℕ
version_at k airings = changes (carried k airings) % 32
