-- What stands of a run of `play --follow` at some moment: of its report and of its air.
use Rattle.std.specs.Prelude.{◌≡◌, ◌⊎◌, ℕ, List, [], ◌∷◌, ◌++◌, drop, take}
use Rattle.air_model.specs.Air.{Aired, air_bytes}
use Rattle.journal_air.specs.OnAir.{cycle_bytes}
use Rattle.cycle_player.specs.Airs.{AreMadeAt, IsAirAt}
use Rattle.journal_air.specs.Air.{airings}
use Rattle.journal_model.specs.declared.step.Entry.{Entry}
use Rattle.journal_model.specs.declared.step.Step.TheVariants.{Swap}
use Rattle.mux_model.specs.declared.mux.Mux.{Mux}
use Rattle.script_notes.specs.ReportLaws.{IsCutOrEnd}
use Rattle.script_notes.specs.Pieces.{Piece, entries_in, pieces_text}

-- The last of these entries is a swap.
pub record EndsWithSwap (entries : List Entry) : Type 0 where
  pub front : List Entry
  pub last : Entry
  pub entries_are : entries ≡ front ++ last ∷ []
  pub is_swap : last.step ≡ Swap

-- The air took all of these cycles but the last, and the first bytes of that one, which the last
-- entry put on air.
pub record IsCutCycle (entries : List Entry) (cycles : List Aired) (taken : List ℕ) : Type 0 where
  pub ends : EndsWithSwap entries
  pub whole : List Aired
  pub cut : Aired
  pub cycles_are : cycles ≡ whole ++ cut ∷ []
  pub count : ℕ
  pub bytes : taken ≡ air_bytes whole ++ take count (cycle_bytes cut)

-- The air took these cycles whole, or the last of them in part.
abbrev pub IsCutLast : List Entry → List Aired → List ℕ → Type 0
IsCutLast entries cycles taken = (taken ≡ air_bytes cycles) ⊎ IsCutCycle entries cycles taken

-- A run that goes on after a journal and its cycles is to write these pieces. At this moment the
-- report has the first k of them, and a proper front of the next one or of what the run prints at
-- its end. The air has the cycles of those k, and perhaps only a front of a last swap's cycle.
pub record Stands (mux : Mux) (before : List Entry) (earlier : List Aired) (pieces : List Piece)
    (taken report : List ℕ) : Type 0 where
  pub k : ℕ
  pub part : List ℕ
  pub report_is : report ≡ pieces_text (take k pieces) ++ part
  pub part_is : IsCutOrEnd (drop k pieces) part
  pub cycles : List Aired
  pub is_air :
      IsAirAt mux.rate (airings mux (before ++ entries_in (take k pieces))) (earlier ++ cycles)
  pub made : AreMadeAt mux.rate earlier cycles
  pub air_is : IsCutLast (entries_in (take k pieces)) cycles taken

-- the entries that stand in the report whole
abbrev pub standing : {mux : Mux} {before : List Entry} {earlier : List Aired} {pieces : List Piece}
    {taken report : List ℕ} → Stands mux before earlier pieces taken report → List Entry
standing {pieces = pieces} stands = entries_in (take stands.k pieces)
