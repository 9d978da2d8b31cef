-- Sections of a cycle laid end to end, each once, and the order in which the cycle sends them.
use Rattle.std.specs.Prelude.{◌≡◌, ℕ, ◌+◌, ◌<◌, ◌≤◌, List, [], ◌∷◌, ◌++◌, length, take, drop, flat_map, Vec, vec_len, vec_capacity, Option, Some, None}
use Rattle.std.specs.List.{prefix_len}
use Rattle.guide_model.specs.declared.offset.Offset.{Offset}
use Rattle.section_codec.specs.declared.table.SubTable.{SubTable}
use Rattle.section_codec.specs.Contents.{Content}
use Rattle.air_model.specs.Cycle.{cycle_of}
use Rattle.air_model.specs.Sections.{planned}
use Rattle.version_book.specs.Airings.{CycleForm}
use Rattle.time_tables.specs.LocalOffsets.{offsets_body}
use Rattle.air_model.specs.Air.{Sent, sections_of, tdt, leads, before_tdt, behind_tdt}
use Rattle.air_model.specs.declared.placed.Placed.{Placed}
use Rattle.air_model.specs.Planning.{weights_under}

-- a section stands within so many bytes, and can be sent
pub record IsPlaced (size : ℕ) (p : Placed) : Type 0 where
  pub pid : p.pid < 8192
  pub some : 1 ≤ p.len
  pub most : p.len ≤ 4096
  pub within : p.start + p.len ≤ size

abbrev pub sent_at : List ℕ → Placed → Sent
sent_at bytes p = record { pid = p.pid; bytes = take p.len (drop p.start bytes) }

-- the places of sections that stand end to end from a byte on
abbrev pub places_from : ℕ → List Sent → List Placed
places_from start [] = []
places_from start (s ∷ ss) = record { pid = s.pid; start = start; len = length s.bytes } ∷ places_from (start + length s.bytes) ss

-- a buffer has at most so many elements more, in no less memory
pub record Grew {T Z : Type 0} (old new : Vec T Z) (most : ℕ) : Type 0 where
  pub len : vec_len new ≤ vec_len old + most
  pub capacity : vec_capacity old ≤ vec_capacity new

-- These sections are laid end to end.
pub record AreLaid (ss : List Sent) (bytes : List ℕ) (placed : List Placed) : Type 0 where
  pub bytes_are : bytes ≡ flat_map (λ (s : Sent). s.bytes) ss
  pub placed_are : placed ≡ places_from 0 ss

-- the sections of sub-tables with these versions
abbrev pub sections_under : List ℕ → List SubTable → List Sent
sections_under [] ts = []
sections_under (v ∷ vs) [] = []
sections_under (v ∷ vs) (t ∷ ts) = sections_of v t ++ sections_under vs ts

-- a written TOT, where there is one
abbrev pub sent_tot : Option (List ℕ) → List Sent
sent_tot None = []
sent_tot (Some section) = record { pid = 0x0014; bytes = section } ∷ []

-- the sections that tell a moment, with a written TOT
abbrev pub told_with : ℕ → Option (List ℕ) → List Sent
told_with moment section = tdt moment ∷ sent_tot section

-- the sections of a cycle of sub-tables with these versions, and those that tell the time
abbrev pub cycle_under : List ℕ → List SubTable → List Sent → List Sent
cycle_under vs ts told =
    sections_under (take (prefix_len leads ts) vs) (before_tdt ts)
    ++ (told ++ sections_under (drop (prefix_len leads ts) vs) (behind_tdt ts))

-- how many bytes the sections of a sub-table have, and those of all
abbrev pub room_of : Content → ℕ
room_of [] = 0
room_of (s ∷ ss) = 12 + length s.body + room_of ss

abbrev pub room_for : List SubTable → ℕ
room_for [] = 0
room_for (t ∷ ts) = room_of t.sections + room_for ts

abbrev pub places_for : List SubTable → ℕ
places_for [] = 0
places_for (t ∷ ts) = length t.sections + places_for ts

-- how many bytes the TOT of these offsets has
abbrev pub tot_size : List Offset → ℕ
tot_size [] = 0
tot_size (o ∷ offsets) = 16 + length (offsets_body (o ∷ offsets))

abbrev pub size_of : Option (List ℕ) → ℕ
size_of None = 0
size_of (Some section) = length section

-- Empty buffers with memory for the sections of these sub-tables, for a TDT of 8 bytes and for a TOT of these offsets, which have two
-- places.
pub record HaveRoom {Z : Type 0} (tables : List SubTable) (offsets : List Offset) (bytes : Vec ℕ Z) (placed : Vec Placed Z) : Type 0 where
  pub no_byte : bytes.items ≡ []
  pub no_place : placed.items ≡ []
  pub room : vec_len bytes + (8 + tot_size offsets + room_for tables) ≤ vec_capacity bytes
  pub places : vec_len placed + (2 + places_for tables) ≤ vec_capacity placed

-- the order in which a cycle of these sub-tables, of this form, sends its sections, each named by its place among those that are laid
abbrev pub order_under : List SubTable → CycleForm → List ℕ
order_under tables form = cycle_of (planned (weights_under tables form.offsets) form.quota)
