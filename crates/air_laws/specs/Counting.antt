-- Sub-tables that a receiver reads as they were meant (ISO/IEC 13818-1, 2.4.4; EN 300 468, 5.1.1).
use Rattle.std.specs.Prelude.{◌≡◌, ◌<◌, true, Some}
use Rattle.std.specs.List.{All, AllByRecursion}
use Rattle.section_codec.specs.declared.table.NumberedBody.{NumberedBody}
use Rattle.section_codec.specs.declared.table.SubTable.{SubTable}
use Rattle.section_codec.specs.Contents.{last_number}
use Rattle.section_codec.specs.Keys.{key_in}
use Rattle.version_book.specs.Airings.{AiredTables}
use Rattle.section_codec.specs.SubTables.{KeysDiffer, IsFit, header_of}
use Rattle.ts_demux.specs.declared.section.RawSection.{RawSection}
use Rattle.sub_collect.specs.Laws.{IsNumbered}
use Rattle.guide_receiver.specs.Counting.{is_body_of_table}
use Rattle.air_model.specs.Air.{Sent, CanBeTold}

-- a section that is sent, as it is heard whole
abbrev pub raw_of : Sent → RawSection
raw_of s = record { pid = s.pid; bytes = s.bytes }

-- The fields of its sections fit their bits, each section tells the key and has a body of its table, and the content describes itself.
pub record IsReadable (t : SubTable) : Type 0 where
  pub table : t.key.table < 256
  pub ext : t.key.ext < 65536
  pub last : last_number t.sections < 256
  pub keyed : AllByRecursion (λ (s : NumberedBody). key_in t.key.pid (header_of 0 t s) s.body ≡ Some t.key) t.sections
  pub bodies : AllByRecursion (λ (s : NumberedBody). is_body_of_table (header_of 0 t s) s.body ≡ true) t.sections
  pub numbered : IsNumbered t.key t.sections

-- The sub-tables and the offsets of an airing can be sent, and be heard; no two sub-tables have one key.
pub record CanBeHeard (a : AiredTables) : Type 0 where
  pub differ : KeysDiffer a.tables
  pub fit : All IsFit a.tables
  pub readable : AllByRecursion IsReadable a.tables
  pub offsets : CanBeTold a.form.offsets
