-- Going on after a kill: what stands is folded, and a run goes on from the checkpoint.
use Rattle.std.specs.Prelude.{◌≡◌, ◌⊎◌, ◌<◌, ◌≤◌, ◌^◌, ℕ, List, [], ◌++◌, false, length, Ok, Some, true}
use Rattle.std.specs.Io.KnownBytes.{Appends}
use Rattle.std.specs.List.{AllByRecursion}
use Rattle.si_causes.specs.Causes.{Rose}
use Rattle.si_causes.specs.Opening.{Files, file_at}
use Rattle.air_model.specs.Air.{Aired, air_bytes}
use Rattle.journal_text.specs.CommandBack.{ahead_of}
use Rattle.desk_core.specs.Journal.{Legal, LegalAfter, publishes}
use Rattle.epg_play.specs.Again.{Describes}
use Rattle.epg_play.specs.Behind.{LeavesBehind}
use Rattle.epg_play.specs.Checkpointed.{HasRun, IsCheckpoint, checkpoint_limit}
use Rattle.epg_play.specs.CheckpointRuns.{FoldRunWithin, ResumeRunWithin, Resumes}
use Rattle.epg_play.specs.Over.{described_within}
use Rattle.epg_play.specs.NeverRefused.{HasShortMoment}
use Rattle.epg_report.specs.Told.{OpenerAsked, ReportTaken, SourceGave}
use Rattle.epg_report.specs.declared.status.Origin.TheVariants.{Input, Recording}
use Rattle.epg_report.specs.declared.status.Status.{Status}
use Rattle.epg_report.specs.declared.status.Status.TheVariants.{Done, Memory, OpenFault, ReadFault}
use Rattle.input_lines.specs.Ahead.{Ahead, Came, Ends}
use Rattle.journal_model.specs.declared.step.Entry.{Entry}
use Rattle.mux_model.specs.declared.mux.Mux.{Mux}
use Rattle.script_notes.specs.Pieces.{IsReadablePiece, Piece, entries_in}
use Rattle.script_notes.specs.Whole.{whole_entries}
use Rattle.epg_follow.specs.Bridges.{GoesOn, IsBridged}
use Rattle.epg_follow.specs.Stands.{Stands, standing}

-- ---- folding

-- A fold made these cycles, and its report is this checkpoint of the journal and of all cycles. It
-- can be gone on from, at a bit rate while the clock's moment has at most 18 digits.
pub record IsFolded (mux : Mux) (journal : List Entry) (earlier cycles : List Aired)
    (air report : ReportTaken) (text : List ℕ) : Type 0 where
  pub air_is : Appends air.old air.new (air_bytes cycles)
  pub report_is : Appends report.old report.new text
  pub checkpoint : IsCheckpoint mux journal (earlier ++ cycles) text
  pub legal : Legal mux journal
  pub goes_on : publishes journal < 10 ^ 18 → HasShortMoment mux.rate (earlier ++ cycles)
      → HasRun mux journal (earlier ++ cycles)

-- The whole entries of the report that stands are folded, after a description, and after the
-- checkpoint from which the run went on, if any. The fold makes the very cycles that were on air.
abbrev pub FoldsMakeWhatWasAired : Type 0
FoldsMakeWhatWasAired =
    (mux : Mux) (before : List Entry) (earlier : List Aired) (pieces : List Piece)
    (taken report : List ℕ) (stands : Stands mux before earlier pieces taken report)
    → LegalAfter mux before (entries_in pieces) → AllByRecursion IsReadablePiece pieces
    → (n m : ℕ) (air_took report_took : ReportTaken)
    → LeavesBehind true mux before earlier air_took report_took
    (ahead_of n (whole_entries report) (Ends m)) Done
    → (text : List ℕ)
    × IsFolded mux (before ++ standing stands) earlier stands.cycles air_took report_took text

-- So does `play --fold` of a description and the whole entries, within the limit of a script, long or
-- not,
abbrev pub FoldRunsMakeWhatWasAired : Type 0
FoldRunsMakeWhatWasAired =
    (limit : ℕ) (mux : Mux) (block : List ℕ) (pieces : List Piece) (taken report : List ℕ)
    (stands : Stands mux [] [] pieces taken report)
    → Describes block mux → Legal mux (entries_in pieces) → AllByRecursion IsReadablePiece pieces
    → length (block ++ whole_entries report) ≤ limit
    → (input : SourceGave) (air_took report_took : ReportTaken)
    → input.old ≡ Some (block ++ whole_entries report)
    → FoldRunWithin limit input air_took report_took Done
    → (text : List ℕ) × IsFolded mux (standing stands) [] stands.cycles air_took report_took text

-- and `play --resume --fold`, from the checkpoint from which the run went on.
abbrev pub ResumedFoldsMakeWhatWasAired : Type 0
ResumedFoldsMakeWhatWasAired =
    (limit : ℕ) (mux : Mux) (block : List ℕ) (before : List Entry) (earlier : List Aired)
    (pieces : List Piece) (taken report : List ℕ)
    (stands : Stands mux before earlier pieces taken report)
    → Describes block mux → LegalAfter mux before (entries_in pieces)
    → AllByRecursion IsReadablePiece pieces
    → length (block ++ whole_entries report) ≤ limit
    → (path bytes : List ℕ) (files : Files) → file_at path files ≡ Some bytes
    → length bytes ≤ checkpoint_limit → HasRun mux before earlier
    → IsCheckpoint mux before earlier bytes
    → (opener : OpenerAsked) (input : SourceGave) (air_took report_took : ReportTaken)
    → opener.files ≡ Some files → input.old ≡ Some (block ++ whole_entries report)
    → ResumeRunWithin limit path true opener input air_took report_took Done
    → (text : List ℕ)
    × IsFolded mux (before ++ standing stands) earlier stands.cycles air_took report_took text

-- Where nothing fails the fold is Done, or memory was wanting: whole entries within the limit are
-- never refused.
abbrev pub WholeEntriesFold : Type 0
WholeEntriesFold =
    (limit : ℕ) (mux : Mux) (block : List ℕ) (pieces : List Piece) (taken report : List ℕ)
    → Stands mux [] [] pieces taken report
    → Describes block mux → Legal mux (entries_in pieces) → AllByRecursion IsReadablePiece pieces
    → length (block ++ whole_entries report) ≤ limit
    → (input : SourceGave) (air report_took : ReportTaken) (status : Status)
    → input.old ≡ Some (block ++ whole_entries report)
    → FoldRunWithin limit input air report_took status
    → ¬ (Rose input.faults_old input.faults_new) → ¬ (Rose air.faults_old air.faults_new)
    → ¬ (Rose report_took.faults_old report_took.faults_new)
    → (status ≡ Done) ⊎ (status ≡ Memory)

-- ---- going on

-- the statuses of a run that began, and that did not run out of memory
abbrev pub DidBegin : Status → Type 0
DidBegin (OpenFault n) = ⊥
DidBegin (ReadFault Recording) = ⊥
DidBegin Memory = ⊥
DidBegin status = Unit {0}

-- A run went on with some entries and cycles, and its air took their bytes.
pub record WentOnAir (mux : Mux) (journal : List Entry) (earlier : List Aired) (air : ReportTaken) :
    Type 0 where
  pub more : List Entry
  pub cycles : List Aired
  pub taken : List ℕ
  pub goes : GoesOn mux journal more earlier cycles taken
  pub air_is : Appends air.old air.new taken

-- A run of `play --resume` that began went on after the journal and the cycles of its checkpoint.
abbrev pub ResumedRunsGoOn : Type 0
ResumedRunsGoOn =
    (mux : Mux) (journal : List Entry) (earlier : List Aired) (air report : ReportTaken)
    (lines : Ahead) (status : Status) → DidBegin status
    → LeavesBehind false mux journal earlier air report lines status
    → WentOnAir mux journal earlier air

-- So does a run of which this stands, if it is killed in its turn.
abbrev pub StandingRunsGoOn : Type 0
StandingRunsGoOn =
    (mux : Mux) (journal : List Entry) (earlier : List Aired) (pieces : List Piece)
    (taken report : List ℕ) (stands : Stands mux journal earlier pieces taken report)
    → Legal mux (journal ++ entries_in pieces)
    → GoesOn mux journal (standing stands) earlier stands.cycles taken

-- ---- both

-- A run was killed, what stands was folded, and a run that began went on from the file of the
-- checkpoint: all together are one air.
abbrev pub RecoveredRunsAreBridged : Type 0
RecoveredRunsAreBridged =
    (mux : Mux) (before : List Entry) (earlier : List Aired) (pieces : List Piece)
    (taken report : List ℕ) (stands : Stands mux before earlier pieces taken report)
    (folded_air folded_report : ReportTaken) (text : List ℕ)
    → IsFolded mux (before ++ standing stands) earlier stands.cycles folded_air folded_report text
    → publishes (before ++ standing stands) < 10 ^ 18
    → HasShortMoment mux.rate (earlier ++ stands.cycles)
    → (path : List ℕ) (files : Files) → file_at path files ≡ Some text
    → length text ≤ checkpoint_limit
    → (opener : OpenerAsked) (air report_took : ReportTaken) (lines : Ahead) (status : Status)
    → Resumes path files false opener air report_took mux lines status → DidBegin status
    → (went : WentOnAir mux (before ++ standing stands) (earlier ++ stands.cycles) air)
    × IsBridged mux before earlier pieces taken report stands went.more went.cycles

-- ---- whole runs

-- the statuses of a run that began, and whose input did not fail
abbrev pub DidRead : Status → Type 0
DidRead (ReadFault Input) = ⊥
DidRead status = DidBegin status

-- A run that began from nothing was killed. `play --fold` of its description and of the whole
-- entries of its report was Done. `play --resume` went on from the file of what that printed, with
-- any script of the multiplex. Then all together are one air. Either run may be of a long script.
abbrev pub RunsAreBridged : Type 0
RunsAreBridged =
    (limit again : ℕ) (mux : Mux) (block : List ℕ) (pieces : List Piece) (taken report : List ℕ)
    (stands : Stands mux [] [] pieces taken report)
    → Describes block mux → Legal mux (entries_in pieces) → AllByRecursion IsReadablePiece pieces
    → length (block ++ whole_entries report) ≤ limit
    → publishes (standing stands) < 10 ^ 18 → HasShortMoment mux.rate stands.cycles
    → (fold_input : SourceGave) (fold_air fold_report : ReportTaken)
    → fold_input.old ≡ Some (block ++ whole_entries report)
    → FoldRunWithin limit fold_input fold_air fold_report Done
    → (text : List ℕ) → fold_report.old ≡ Some [] → fold_report.new ≡ Some text
    → length text ≤ checkpoint_limit
    → (path : List ℕ) (files : Files) → file_at path files ≡ Some text
    → (opener : OpenerAsked) (input : SourceGave) (air report_took : ReportTaken) (status : Status)
    → ResumeRunWithin again path false opener input air report_took status
    → opener.files ≡ Some files
    → (script : List ℕ) (lines : Ahead) → input.old ≡ Some script
    → described_within again script ≡ Came (Ok mux) lines → DidRead status
    → (went : WentOnAir mux (standing stands) stands.cycles air)
    × IsBridged mux [] [] pieces taken report stands went.more went.cycles
