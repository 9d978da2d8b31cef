-- How soon the sections of leads are sent again. TR 101 290, 5.2.1 and 5.2.3, tolerates half a second
-- without PAT or PMT, and two seconds without SDT or present and following.
use Rattle.std.specs.Prelude.{◌≡◌, ◌⊎◌, ℕ, ◌+◌, ◌*◌, ◌<◌, ◌≤◌, List, [], ◌∷◌, ◌++◌, Contains, length, map}
use Rattle.std.specs.List.{AllByRecursion}
use Rattle.section_codec.specs.declared.table.SubTable.{SubTable}
use Rattle.version_book.specs.Airings.{AiredTables}
use Rattle.air_model.specs.Sections.{planned}
use Rattle.air_timing.specs.declared.span.Leads.{Leads}
use Rattle.air_timing.specs.declared.timing.Timing.{Timing}
use Rattle.air_timing.specs.Rate.{half_second, IsRightSpan}
use Rattle.air_model.specs.Air.{Sent, Aired, table_sections, times, before_tdt, weights_once, air, airings_of}
use Rattle.cycle_timing.specs.Airs.{CanBeTimed}
use Rattle.cycle_timing.specs.Cycle.{AreTimed}
use Rattle.cycle_timing.specs.Leads.{before_events, measure}
use Rattle.cycle_timing.specs.Planning.{fast_groups, plan_of, timings_of}

-- the Fast sub-tables of an airing, each with its sections, and those before present and following
abbrev pub fast_tables : ℕ → List AiredTables → AiredTables → List (List ℕ)
fast_tables rate past a =
    fast_groups (plan_of rate past a).sections (planned (weights_once past a) a.form.quota)

abbrev pub first_tables : ℕ → List AiredTables → AiredTables → List (List ℕ)
first_tables rate past a = before_events (plan_of rate past a).sections (fast_tables rate past a)

-- the sections that stand before those of events, by their places: of PAT, PMT, NIT, SDT, TDT and TOT
abbrev pub first_sections : List AiredTables → AiredTables → List Sent
first_sections past a =
    table_sections (past ++ a ∷ []) (before_tdt a.tables) ++ times a.form a.moment

-- what the leads of its cycle are like, and whether their frames have the right span
abbrev pub leads_in : ℕ → List AiredTables → AiredTables → Leads
leads_in rate past a = measure (plan_of rate past a).sections (fast_tables rate past a)

abbrev pub IsRight : ℕ → List AiredTables → AiredTables → Type 0
IsRight rate past a = IsRightSpan rate (leads_in rate past a) (plan_of rate past a).span

-- timings after n packets
abbrev pub moved : ℕ → Timing → Timing
moved n t = record { section = t.section; first = n + t.first; last = n + t.last }

-- those of the cycle of an airing within an air, after these
abbrev pub timings_after : ℕ → List Aired → AiredTables → List Timing
timings_after rate before a =
    map (moved (length (air before))) (timings_of rate (airings_of before) a)

-- After a section that is one of these another one begins at most `bound` packets later, or the
-- packets end by then.
abbrev pub IsSoonAgain : (ℕ → Type 0) → ℕ → ℕ → Timing → List Timing → Type 0
IsSoonAgain Is bound end one after =
    ((two : Timing) × Contains after two × Is two.section × (two.first ≤ one.first + bound))
    ⊎ (end ≤ one.first + bound)

abbrev pub AreSoonAgain : (ℕ → Type 0) → ℕ → ℕ → List Timing → Type 0
AreSoonAgain Is bound end ts =
    (before after : List Timing) (one : Timing) → ts ≡ before ++ one ∷ after → Is one.section
    → IsSoonAgain Is bound end one after

-- Of a cycle, or of some that follow each other, up to packet `end`:
pub record AreRepeated (rate : ℕ) (past : List AiredTables) (a : AiredTables) (end : ℕ)
    (ts : List Timing) : Type 0 where
  -- each sub-table before present and following (PAT, PMT, NIT, SDT, TDT and TOT) is sent again
  -- within half a second,
  pub half : (table : List ℕ) → Contains (first_tables rate past a) table
      → AreSoonAgain (Contains table) (half_second rate) end ts
  -- and each section of a Fast sub-table within two seconds
  pub two : (table : List ℕ) (x : ℕ) → Contains (fast_tables rate past a) table → Contains table x
      → AreSoonAgain (λ (i : ℕ). i ≡ x) (4 * half_second rate) end ts

-- So it is where the span is right: in a cycle,
abbrev pub TimedCyclesRepeat : Type 0
TimedCyclesRepeat =
    (rate : ℕ) (before : List Aired) (x : Aired) (after : List Aired)
    → AreTimed rate [] (before ++ x ∷ after)
    → CanBeTimed x.airing → IsRight rate (airings_of before) x.airing
    → AreRepeated rate (airings_of before) x.airing (length (air (before ++ x ∷ [])))
    (timings_after rate before x.airing)

-- and from it into the one after it, where that has equal sub-tables and the same form.
abbrev pub TimedNeighboursRepeat : Type 0
TimedNeighboursRepeat =
    (rate : ℕ) (before : List Aired) (x y : Aired) (after : List Aired)
    → AreTimed rate [] (before ++ x ∷ y ∷ after)
    → y.airing.tables ≡ x.airing.tables → y.airing.form ≡ x.airing.form
    → CanBeTimed x.airing → IsRight rate (airings_of before) x.airing
    → AreRepeated rate (airings_of before) x.airing (length (air (before ++ x ∷ y ∷ [])))
    (timings_after rate before x.airing ++ timings_after rate (before ++ x ∷ []) y.airing)

-- Where no sub-table before the time is on the PID of events, each section before those of events is
-- of a sub-table before present and following.
abbrev pub FirstTablesLead : Type 0
FirstTablesLead =
    (rate : ℕ) (past : List AiredTables) (a : AiredTables)
    → AllByRecursion (λ (t : SubTable). t.key.pid ≡ 0x0012 → Prim.⊥) (before_tdt a.tables)
    → (x : ℕ) → x < length (first_sections past a)
    → (table : List ℕ) × Contains (first_tables rate past a) table × Contains table x
