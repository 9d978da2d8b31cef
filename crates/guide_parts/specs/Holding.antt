-- What code holds of parts: a collector.
use Rattle.std.specs.Prelude.{◌≡◌, List}
use Rattle.section_codec.specs.declared.table.Key.{Key}
use Rattle.section_codec.specs.Contents.{Content}
use Rattle.sub_collect.specs.Marks.{Taken}
use Rattle.sub_collect.specs.Parts.{part_of}
use Rattle.sub_collect.specs.Collectors.{KeysHeard, CollectorStandsOver}

-- A collector holds these parts.
pub record KeepsParts (collector : KeysHeard) (part : Key → Content) : Type 0 where
  pub past : List Taken
  pub stands : CollectorStandsOver past collector
  pub each : (k : Key) → part k ≡ part_of k past
