-- Sub-tables by their keys, and those that can be sent, and then be heard.
use Rattle.std.specs.Prelude.{◌≡◌, ◌≢◌, ℕ, true, false, ◌<◌, ◌≤◌, List, [], ◌∷◌, length}
use Rattle.std.specs.List.{All}
use Rattle.section_codec.specs.declared.section.LongHeader.{LongHeader}
use Rattle.section_codec.specs.declared.table.Key.{Key}
use Rattle.section_codec.specs.declared.table.NumberedBody.{NumberedBody}
use Rattle.section_codec.specs.declared.table.SubTable.{SubTable}
use Rattle.section_codec.specs.Contents.{Ascend, last_number}
use Rattle.section_codec.specs.Tables.{has_short_form, tier_of, tier_rank}
use Rattle.section_codec.specs.Section.{longest_body}

-- none of these sub-tables has this key
abbrev pub Lacks : Key → List SubTable → Type 0
Lacks k [] = Unit {0}
Lacks k (t ∷ ts) = (k ≢ t.key) × Lacks k ts

-- no two of these sub-tables have one key
abbrev pub KeysDiffer : List SubTable → Type 0
KeysDiffer [] = Unit {0}
KeysDiffer (t ∷ ts) = Lacks t.key ts × KeysDiffer ts

-- the header of a section of a sub-table that has this version
abbrev pub header_of : ℕ → SubTable → NumberedBody → LongHeader
header_of version t s = record { table = t.key.table; ext = t.key.ext; version = version; current = true; number = s.number; last = last_number t.sections }

-- A sub-table whose sections can be sent: not on the PID of the null packets, in the long form, not beginning as fill does, with 0xFF.
pub record IsFit (t : SubTable) : Type 0 where
  pub pid : t.key.pid < 8191
  pub long : has_short_form t.key.table ≡ false
  pub no_fill : t.key.table ≢ 0xFF
  pub some : 0 < length t.sections
  pub ascending : Ascend t.sections
  pub bodies : All (λ (s : NumberedBody). length s.body ≤ longest_body t.key.table) t.sections

-- sub-tables in the order of their tiers
abbrev pub AreTiered : List SubTable → Type 0
AreTiered [] = Unit {0}
AreTiered (t ∷ []) = Unit {0}
AreTiered (t ∷ u ∷ ts) = (tier_rank t.tier ≤ tier_rank u.tier) × AreTiered (u ∷ ts)

-- Sub-tables that can be sent in one cycle: each has the tier of its table, and they stand in the order of the tiers.
pub record AreFit (tables : List SubTable) : Type 0 where
  pub differ : KeysDiffer tables
  pub each : All IsFit tables
  pub tiers : All (λ (t : SubTable). t.tier ≡ tier_of t.key.table) tables
  pub ordered : AreTiered tables
