-- Cycles of airings, and the air of an airing list.
use Rattle.std.specs.Prelude.{◌≡◌, ℕ, ◌<◌, ◌≤◌, false, replicate, List, [], ◌∷◌, ◌++◌, Bool, not, ◌&&◌, Option, Some, None, ◌==◌, if◌then◌else◌, length, drop, map, flat_map, filter_map, slice_get}
use Rattle.std.specs.List.{All, AllByRecursion, prefix_len, take_while}
use Rattle.guide_model.specs.declared.offset.Offset.{Offset}
use Rattle.section_codec.specs.SubTables.{IsFit, header_of}
use Rattle.section_codec.specs.declared.table.NumberedBody.{NumberedBody}
use Rattle.section_codec.specs.declared.table.SubTable.{SubTable}
use Rattle.section_codec.specs.declared.table.Tier3.{Tier3}
use Rattle.section_codec.specs.declared.table.Tier3.TheVariants.{Fast}
use Rattle.section_codec.specs.Section.{section_bytes}
use Rattle.section_codec.specs.Tables.{is_eit}
use Rattle.time_tables.specs.LocalOffsets.{FitsOffset}
use Rattle.time_tables.specs.Tdt.{tdt_section}
use Rattle.time_tables.specs.Tot.{tot_section}
use Rattle.version_book.specs.Airings.{AiredTables, CycleForm, version_at}
use Rattle.air_model.specs.Cycle.{cycle_of}
use Rattle.air_model.specs.Sections.{is_fast, planned}
use Rattle.ts_packets.specs.Packets.{Piece, Carries, packets_of}
use Rattle.ts_packets.specs.Bytes.{Packet, HasFields, bytes_of_packet}
use Rattle.ts_packets.specs.Counting.{of_pid, loads_on, Count}

-- ---- the sections of an airing

-- a section and the PID that it is sent on
pub record Sent : Type 0 where
  pub pid : ℕ
  pub bytes : List ℕ

abbrev pub sent_section : ℕ → SubTable → NumberedBody → Sent
sent_section version t s = record { pid = t.key.pid; bytes = section_bytes (header_of version t s) s.body }

abbrev pub sections_of : ℕ → SubTable → List Sent
sections_of version t = map (sent_section version t) t.sections

-- the sections of these sub-tables, each with its version in the last of these airings
abbrev pub table_sections : List AiredTables → List SubTable → List Sent
table_sections airings tables = flat_map (λ (t : SubTable). sections_of (version_at t.key airings) t) tables

-- the time and date table of a moment: one section, on a PID of its own (EN 300 468, 5.1.3 and 5.2.5)
abbrev pub tdt : ℕ → Sent
tdt moment = record { pid = 0x0014; bytes = tdt_section moment }

-- the time offset table of a moment, where there are offsets: one section, on the same PID (EN 300 468, 5.1.3 and 5.2.6)
abbrev pub tot : ℕ → List Offset → List Sent
tot moment [] = []
tot moment (o ∷ offsets) = record { pid = 0x0014; bytes = tot_section moment (o ∷ offsets) } ∷ []

-- the sections that tell the time in a cycle of this form
abbrev pub times : CycleForm → ℕ → List Sent
times form moment = tdt moment ∷ tot moment form.offsets

-- a sub-table is sent most often, and is no event information
abbrev pub leads : SubTable → Bool
leads t = is_fast t.tier && not (is_eit t.key.table)

-- of a cycle's sub-tables those that lead, which are sent before the time, and the others, behind it
abbrev pub before_tdt : List SubTable → List SubTable
before_tdt tables = take_while leads tables

abbrev pub behind_tdt : List SubTable → List SubTable
behind_tdt tables = drop (prefix_len leads tables) tables

-- Each section of an airing behind others once: those of each sub-table, and those that tell the airing's moment behind PAT, PMT, NIT
-- and SDT, before all event information.
abbrev pub sections_once : List AiredTables → AiredTables → List Sent
sections_once past a =
    table_sections (past ++ a ∷ []) (before_tdt a.tables)
    ++ (times a.form a.moment ++ table_sections (past ++ a ∷ []) (behind_tdt a.tables))

-- at most 16 offsets, which fit their fields
pub record CanBeTold (offsets : List Offset) : Type 0 where
  pub few : length offsets ≤ 16
  pub each : AllByRecursion FitsOffset offsets

-- an airing whose sub-tables and offsets can be sent
pub record IsSendable (a : AiredTables) : Type 0 where
  pub tables : All IsFit a.tables
  pub offsets : CanBeTold a.form.offsets

abbrev pub CanBeSent : List AiredTables → Type 0
CanBeSent airings = AllByRecursion IsSendable airings

-- ---- their order in a cycle

-- a section as a plan takes it: its tier, and how many packets it has
abbrev pub weight : Tier3 → Sent → Tier3 × ℕ
weight tier s = (tier, packets_of (length s.bytes))

-- of the sections of these sub-tables, with their versions in the last of these airings
abbrev pub table_weights : List AiredTables → List SubTable → List (Tier3 × ℕ)
table_weights airings tables = flat_map (λ (t : SubTable). map (weight t.tier) (sections_of (version_at t.key airings) t)) tables

-- of each section of an airing behind others, in the order of `sections_once`
abbrev pub weights_once : List AiredTables → AiredTables → List (Tier3 × ℕ)
weights_once past a =
    table_weights (past ++ a ∷ []) (before_tdt a.tables)
    ++ (map (weight Fast) (times a.form a.moment) ++ table_weights (past ++ a ∷ []) (behind_tdt a.tables))

-- what stands at these places of a list
abbrev pub at_places : {X : Type 0} → List X → List ℕ → List X
at_places xs places = filter_map (slice_get xs) places

-- The sections of the cycle of an airing behind others, in the order in which they are sent: those of the airing, each once or more
-- often, by the tiers and the quota.
abbrev pub cycle_sections : List AiredTables → AiredTables → List Sent
cycle_sections past a = at_places (sections_once past a) (cycle_of (planned (weights_once past a) a.form.quota))

-- ---- a cycle and an air

-- an airing and the packets of its cycle
pub record Aired : Type 0 where
  pub airing : AiredTables
  pub packets : List Packet

abbrev pub sent_on : ℕ → Sent → Option (List ℕ)
sent_on pid s = if s.pid == pid then Some s.bytes else None

-- The packets are a cycle of the airing behind these: on each PID they carry the cycle's sections with that PID, in
-- their order, and there are no others. How densely sections share packets is left open, and null packets may stand anywhere.
abbrev pub IsCycle : List AiredTables → Aired → Type 0
IsCycle past x = (pid : ℕ) → pid < 8191 → Carries (of_pid pid x.packets) (filter_map (sent_on pid) (cycle_sections past x.airing))

-- a packet of the PID of null packets is one: fill alone (ISO/IEC 13818-1, 2.4.3.3)
abbrev pub null_piece : Piece
null_piece = record { start = false; payload = replicate 184 255 }

abbrev pub IsNullOrOther : Packet → Type 0
IsNullOrOther p = p.pid ≡ 8191 → p.piece ≡ null_piece

-- none of these is a null packet
abbrev pub HasNoNull : List Packet → Type 0
HasNoNull packets = AllByRecursion (λ (p : Packet). p.pid < 8191) packets

-- one cycle for each airing
abbrev pub Cycles : List AiredTables → List Aired → Type 0
Cycles past [] = Unit {0}
Cycles past (x ∷ xs) = IsCycle past x × Cycles (past ++ x.airing ∷ []) xs

abbrev pub air : List Aired → List Packet
air xs = flat_map (λ (x : Aired). x.packets) xs

abbrev pub airings_of : List Aired → List AiredTables
airings_of xs = map (λ (x : Aired). x.airing) xs

-- These are an air of the airing list: one cycle for each airing, joined in order, and on each PID the
-- continuity_counters count 0, 1, .. modulo 16 from the first packet on.
pub record IsAirOf (airings : List AiredTables) (xs : List Aired) : Type 0 where
  pub airings_are : airings_of xs ≡ airings
  pub cycles : Cycles [] xs
  pub counted : (pid : ℕ) → Count 0 (loads_on pid (air xs))
  pub fields : AllByRecursion HasFields (air xs)
  pub nulls : AllByRecursion IsNullOrOther (air xs)

-- the bytes of an air
abbrev pub air_bytes : List Aired → List ℕ
air_bytes xs = flat_map bytes_of_packet (air xs)
