-- How far apart an air repeats a section, where neighbours of one PID share packets.
use Rattle.std.specs.Prelude.{◌≡◌, ◌⊎◌, ℕ, ◌<◌, ◌≤◌, List, [], ◌∷◌, ◌++◌, true, length, map, Some, slice_get, slice_index}
use Rattle.std.specs.List.{AllByRecursion}
use Rattle.section_codec.specs.declared.table.SubTable.{SubTable}
use Rattle.section_codec.specs.SubTables.{AreFit}
use Rattle.air_model.specs.Cycle.{Planned, cycle_of}
use Rattle.air_model.specs.Sections.{is_fast, AreInTiers, planned}
use Rattle.air_model.specs.Packing.{Start, begun_at, starts_dense}
use Rattle.air_model.specs.Spacing.{AreSpaced}
use Rattle.version_book.specs.Airings.{AiredTables, CycleForm}
use Rattle.ts_packets.specs.Packets.{joined, piece_of}
use Rattle.ts_packets.specs.Bytes.{Packet}
use Rattle.air_model.specs.Air.{Sent, Aired, CanBeTold, leads, sections_once, weights_once, air, airings_of}
use Rattle.air_model.specs.Making.{AreMade}

-- what is planned of an airing behind others
abbrev pub plan_of : List AiredTables → AiredTables → Planned
plan_of past a = planned (weights_once past a) a.form.quota

-- the PID and the length of each section of it, by its place among those of the airing
abbrev pub pid_at : List AiredTables → AiredTables → ℕ → ℕ
pid_at past a = slice_index (map (λ (s : Sent). s.pid) (sections_once past a))

abbrev pub length_at : List AiredTables → AiredTables → ℕ → ℕ
length_at past a = slice_index (map (λ (s : Sent). length s.bytes) (sections_once past a))

-- the starts of the sections of its cycle, each named by its place, where the cycle begins with packet n
abbrev pub starts_of : ℕ → List AiredTables → AiredTables → List Start
starts_of n past a = starts_dense (pid_at past a) (length_at past a) (begun_at n) (cycle_of (plan_of past a))

-- A section begins in packet n: that is of its PID, and goes on with the rest of a section, or of none, and in it sections begin, this one
-- among them, with its first byte.
pub record BeginsAt (packets : List Packet) (n : ℕ) (s : Sent) : Type 0 where
  pub before : List Packet
  pub packet : Packet
  pub after : List Packet
  pub place : length before ≡ n
  pub are : packets ≡ before ++ packet ∷ after
  pub pid : packet.pid ≡ s.pid
  pub rest : List ℕ
  pub front : List (List ℕ)
  pub behind : List (List ℕ)
  pub piece : packet.piece ≡ piece_of rest (front ++ s.bytes ∷ behind)
  pub begins : length (rest ++ joined front) < 183

-- At each of these starts a section of the airing begins.
abbrev pub AreStarts : List Packet → List Sent → List Start → Type 0
AreStarts packets sections starts = AllByRecursion (λ (start : Start). (s : Sent) × (slice_get sections start.section ≡ Some s) × BeginsAt packets start.packet s) starts

-- A cycle within an air: its sections, numbered from 0 on in the order Fast, Near, Far, begin at these starts, and these are spaced.
pub record IsSpacedIn (before : List Aired) (x : Aired) (after : List Aired) : Type 0 where
  pub tiers : AreInTiers (weights_once (airings_of before) x.airing)
  pub starts : AreStarts (air (before ++ x ∷ after)) (sections_once (airings_of before) x.airing) (starts_of (length (air before)) (airings_of before) x.airing)
  pub spaced : AreSpaced (plan_of (airings_of before) x.airing) (starts_of (length (air before)) (airings_of before) x.airing)

-- The first sub-table is sent before the TDT, and none of tier Near or Far has its PID: so each run begins with a packet of its own, and
-- shares none with the run before. Without this the bound of Fast would not hold.
pub record RunsBeginAlone (tables : List SubTable) : Type 0 where
  pub first : SubTable
  pub others : List SubTable
  pub are : tables ≡ first ∷ others
  pub leads : leads first ≡ true
  pub apart : AllByRecursion (λ (t : SubTable). (is_fast t.tier ≡ true) ⊎ (t.key.pid ≡ first.key.pid → Prim.⊥)) others

-- An airing whose sub-tables can be sent so, in a cycle with a quota, with offsets that can be sent.
pub record CanBeSpaced (a : AiredTables) : Type 0 where
  pub fit : AreFit a.tables
  pub alone : RunsBeginAlone a.tables
  pub quota : 1 ≤ a.form.quota
  pub offsets : CanBeTold a.form.offsets

-- So is each cycle of an air that is made,
abbrev pub MadeCyclesAreSpaced : Type 0
MadeCyclesAreSpaced =
    (before : List Aired) (x : Aired) (after : List Aired) → AreMade [] (before ++ x ∷ after) → CanBeSpaced x.airing → IsSpacedIn before x after

-- the starts of a cycle within an air, and of the one behind it
abbrev pub starts_of_two : List Aired → Aired → Aired → List Start
starts_of_two before x y =
    starts_of (length (air before)) (airings_of before) x.airing ++ starts_of (length (air (before ++ x ∷ []))) (airings_of (before ++ x ∷ [])) y.airing

-- and from its end into the one behind it, where that has equal sub-tables and the same form.
abbrev pub MadeNeighboursAreSpaced : Type 0
MadeNeighboursAreSpaced =
    (before : List Aired) (x y : Aired) (after : List Aired) → AreMade [] (before ++ x ∷ y ∷ after) → CanBeSpaced x.airing
    → y.airing.tables ≡ x.airing.tables → y.airing.form ≡ x.airing.form → AreSpaced (plan_of (airings_of before) x.airing) (starts_of_two before x y)

-- Of an air all cycles are spaced, and all neighbours that have equal sub-tables.
pub record IsSpacedAir (xs : List Aired) : Type 0 where
  pub cycles : (before : List Aired) (x : Aired) (after : List Aired) → xs ≡ before ++ x ∷ after → IsSpacedIn before x after
  pub neighbours : (before : List Aired) (x y : Aired) (after : List Aired) → xs ≡ before ++ x ∷ y ∷ after → y.airing.tables ≡ x.airing.tables
      → AreSpaced (plan_of (airings_of before) x.airing) (starts_of_two before x y)

-- So is an air that is made, all of whose airings can be and have one form.
abbrev pub MadeAirsAreSpaced : Type 0
MadeAirsAreSpaced =
    (form : CycleForm) (xs : List Aired) → AreMade [] xs → AllByRecursion (λ (x : Aired). CanBeSpaced x.airing × (x.airing.form ≡ form)) xs → IsSpacedAir xs
