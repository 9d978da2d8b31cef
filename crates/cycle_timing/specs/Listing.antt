-- The sections of a cycle as a plan takes them, whatever their versions and the moment.
use Rattle.std.specs.Prelude.{ℕ, ◌+◌, ◌<◌, ◌≤◌, List, [], ◌∷◌, ◌++◌, not, length, map, flat_map}
use Rattle.std.specs.List.{prefix_len}
use Rattle.guide_model.specs.declared.offset.Offset.{Offset}
use Rattle.time_tables.specs.LocalOffsets.{offsets_body}
use Rattle.section_codec.specs.KeyOrder.{is_key}
use Rattle.section_codec.specs.Tables.{tier_of}
use Rattle.section_codec.specs.declared.table.Key.{Key}
use Rattle.section_codec.specs.declared.table.NumberedBody.{NumberedBody}
use Rattle.section_codec.specs.declared.table.SubTable.{SubTable}
use Rattle.section_codec.specs.declared.table.Tier3.TheVariants.{Fast}
use Rattle.air_timing.specs.declared.pace.Paced.{Paced}
use Rattle.air_model.specs.Air.{before_tdt, behind_tdt}
use Rattle.cycle_timing.specs.declared.listed.Listed.{Listed}

-- what names a sub-table where sections are spaced: its PID, table_id and table_id_extension
abbrev pub name_in : SubTable → Key
name_in t = record {
  pid = t.key.pid;
  table = t.key.table;
  ext = t.key.ext;
  stream = 0;
  network = 0;
}

abbrev pub listed_section : SubTable → NumberedBody → Listed
listed_section t s = record { tier = t.tier; name = name_in t; len = 12 + length s.body }

abbrev pub listed_in : SubTable → List Listed
listed_in t = map (listed_section t) t.sections

abbrev pub listed_of : List SubTable → List Listed
listed_of ts = flat_map listed_in ts

-- of the sections that tell the time: TDT and TOT have no table_id_extension
abbrev pub time_listed : ℕ → ℕ → Listed
time_listed table len = record {
  tier = Fast;
  name = record { pid = 0x14; table = table; ext = 0; stream = 0; network = 0 };
  len = len;
}

abbrev pub tot_listed : List Offset → List Listed
tot_listed [] = []
tot_listed (o ∷ offsets) = time_listed 0x73 (16 + length (offsets_body (o ∷ offsets))) ∷ []

abbrev pub times_listed : List Offset → List Listed
times_listed offsets = time_listed 0x70 8 ∷ tot_listed offsets

abbrev pub listed_under : List SubTable → List Offset → List Listed
listed_under ts offsets =
    listed_of (before_tdt ts) ++ (times_listed offsets ++ listed_of (behind_tdt ts))

-- a table_id_extension has 16 bits
abbrev pub HasRange : SubTable → Type 0
HasRange t = t.key.ext < 65536

-- a section has 1 to 4,096 bytes
pub record IsSized (l : Listed) : Type 0 where
  pub some : 1 ≤ l.len
  pub most : l.len ≤ 4096

-- ---- as they are paced

-- the place of the first section of the same sub-table
abbrev pub number_among : List Listed → Listed → ℕ
number_among ls l = prefix_len (λ (other : Listed). not (is_key l.name other.name)) ls

abbrev pub paced_as : List Listed → Listed → Paced
paced_as ls l = record {
  pid = l.name.pid;
  tier = tier_of l.name.table;
  len = l.len;
  table = number_among ls l;
}

abbrev pub paced_under : List Listed → List Paced
paced_under ls = map (paced_as ls) ls
