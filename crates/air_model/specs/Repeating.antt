-- Cycles that send each section of an airing once or more often, in any order, and an air of such cycles.
use Rattle.std.specs.Prelude.{◌≡◌, ◌⊎◌, ℕ, ◌*◌, ◌<◌, ◌≤◌, List, [], ◌∷◌, ◌++◌, filter_map}
use Rattle.std.specs.List.{AllByRecursion, Contains}
use Rattle.section_codec.specs.declared.table.NumberedBody.{NumberedBody}
use Rattle.section_codec.specs.declared.table.SubTable.{SubTable}
use Rattle.version_book.specs.Airings.{AiredTables, version_at}
use Rattle.ts_packets.specs.Packets.{Carries}
use Rattle.ts_packets.specs.Bytes.{HasFields}
use Rattle.ts_packets.specs.Counting.{of_pid, loads_on, Count}
use Rattle.air_model.specs.Air.{Sent, Aired, sent_section, tdt, tot, times, sent_on, IsNullOrOther, air, airings_of, IsAirOf}

-- a section of one of the airing's sub-tables, behind other airings
abbrev pub IsOfTable : List AiredTables → AiredTables → Sent → Type 0
IsOfTable past a s =
    (t : SubTable) × (p : NumberedBody) × Contains a.tables t × Contains t.sections p × (s ≡ sent_section (version_at t.key (past ++ a ∷ [])) t p)

-- a moment of the airing's or a later one, with a day of 16 bits where that of the airing's moment has one
pub record IsTimeFrom (a : AiredTables) (at : ℕ) : Type 0 where
  pub later : a.moment ≤ at
  pub written : a.moment < 65536 * 86400 → at < 65536 * 86400

-- a section that tells such a moment, whatever its day has
abbrev pub IsTimeOf : AiredTables → Sent → Type 0
IsTimeOf a s = (at : ℕ) × (a.moment ≤ at) × Contains (times a.form at) s

-- a section of a sub-table, or one that tells the airing's moment or a later one
abbrev pub IsSentOf : List AiredTables → AiredTables → Sent → Type 0
IsSentOf past a s = IsOfTable past a s ⊎ IsTimeOf a s

-- These are sections of the airing, each of those of its sub-tables once or more often, a TDT, and where the form has offsets a TOT.
pub record AreSentOf (past : List AiredTables) (a : AiredTables) (ss : List Sent) : Type 0 where
  pub each : AllByRecursion (IsSentOf past a) ss
  pub all : (t : SubTable) (p : NumberedBody) → Contains a.tables t → Contains t.sections p → Contains ss (sent_section (version_at t.key (past ++ a ∷ [])) t p)
  pub time : (at : ℕ) × IsTimeFrom a at × Contains ss (tdt at)
  pub local_time : (at : ℕ) × IsTimeFrom a at × AllByRecursion (Contains ss) (tot at a.form.offsets)

-- The packets are a cycle of the airing that repeats sections as it likes: on each PID they carry those of such sections that have this
-- PID, in their order, however densely these share packets.
pub record IsRepeatingCycle (past : List AiredTables) (x : Aired) : Type 0 where
  pub sections : List Sent
  pub are : AreSentOf past x.airing sections
  pub carried : (pid : ℕ) → pid < 8191 → Carries (of_pid pid x.packets) (filter_map (sent_on pid) sections)

-- one such cycle for each airing
abbrev pub RepeatingCycles : List AiredTables → List Aired → Type 0
RepeatingCycles past [] = Unit {0}
RepeatingCycles past (x ∷ xs) = IsRepeatingCycle past x × RepeatingCycles (past ++ x.airing ∷ []) xs

-- the sections that these cycles send behind other airings, cycle by cycle, in the order in which they are sent
abbrev pub sent_by : (past : List AiredTables) (xs : List Aired) → RepeatingCycles past xs → List Sent
sent_by past [] cycles = []
sent_by past (x ∷ xs) cycles = cycles.0.sections ++ sent_by (past ++ x.airing ∷ []) xs cycles.1

-- These are an air of the airing list whose cycles repeat sections as they like.
pub record IsRepeatingAirOf (airings : List AiredTables) (xs : List Aired) : Type 0 where
  pub airings_are : airings_of xs ≡ airings
  pub cycles : RepeatingCycles [] xs
  pub counted : (pid : ℕ) → Count 0 (loads_on pid (air xs))
  pub fields : AllByRecursion HasFields (air xs)
  pub nulls : AllByRecursion IsNullOrOther (air xs)

-- Each air is one.
abbrev pub AirsRepeat : Type 0
AirsRepeat = (airings : List AiredTables) (xs : List Aired) → IsAirOf airings xs → IsRepeatingAirOf airings xs
