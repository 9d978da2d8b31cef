-- Any number of runs in a row, each killed or ended, and each after the first from the checkpoint of
-- those before it.
use Rattle.std.specs.Prelude.{◌≡◌, ℕ, List, [], ◌∷◌, ◌++◌}
use Rattle.air_model.specs.Air.{Aired}
use Rattle.cycle_player.specs.Airs.{AreMadeAt, IsAirAt}
use Rattle.desk_core.specs.Journal.{Legal, LegalAfter}
use Rattle.journal_air.specs.Air.{airings}
use Rattle.journal_model.specs.declared.step.Entry.{Entry}
use Rattle.mux_model.specs.declared.mux.Mux.{Mux}
use Rattle.script_notes.specs.Pieces.{Piece, entries_in}
use Rattle.epg_follow.specs.Near.{NearVersionsDiffer}
use Rattle.epg_follow.specs.Stands.{Stands, standing}

-- a run: the pieces that it was to write, and what its air and its report took
pub record Run : Type 0 where
  pub pieces : List Piece
  pub taken : List ℕ
  pub report : List ℕ

-- of a run after others the journal and the cycles
pub record RanAfter (mux : Mux) (run : Run) (before journal : List Entry)
    (earlier cycles : List Aired) : Type 0 where
  pub legal : LegalAfter mux before (entries_in run.pieces)
  pub stands : Stands mux before earlier run.pieces run.taken run.report
  pub journal_is : journal ≡ before ++ standing stands
  pub cycles_are : cycles ≡ earlier ++ stands.cycles

-- of runs, the last one first, the journal and the cycles of all
abbrev pub RanInARow : Mux → List Run → List Entry → List Aired → Type 0
RanInARow mux [] journal cycles = (journal ≡ []) × (cycles ≡ [])
RanInARow mux (run ∷ runs) journal cycles =
    (before : List Entry) × (earlier : List Aired) × RanInARow mux runs before earlier
    × RanAfter mux run before journal earlier cycles

-- All entries are one legal journal, and all cycles, also those that were cut, are an air of it, in
-- which no version has two contents within 31 airings.
pub record AreOneAir (mux : Mux) (journal : List Entry) (cycles : List Aired) : Type 0 where
  pub legal : Legal mux journal
  pub is_air : IsAirAt mux.rate (airings mux journal) cycles
  pub made : AreMadeAt mux.rate [] cycles
  pub versions : NearVersionsDiffer (airings mux journal)

abbrev pub RunsInARowAreOneAir : Type 0
RunsInARowAreOneAir =
    (mux : Mux) (runs : List Run) (journal : List Entry) (cycles : List Aired)
    → RanInARow mux runs journal cycles → AreOneAir mux journal cycles
