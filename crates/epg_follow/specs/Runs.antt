-- What `play --follow` leaves, for each status, and all that it promises.
use Rattle.std.specs.Prelude.{◌≡◌, ◌⊎◌, ◌≤◌, ℕ, Bool, List, [], length, Option, Some, Ok, Err, Result}
use Rattle.std.specs.Io.KnownBytes.{IsAtEnd}
use Rattle.si_causes.specs.Causes.{Rose}
use Rattle.si_causes.specs.Opening.{Files, Tries, file_at}
use Rattle.si_causes.specs.Reading.{Reading}
use Rattle.input_lines.specs.Ahead.{Ahead, Came, NoCommand as NoLine, TooLong as Overlong}
use Rattle.air_model.specs.Air.{Aired}
use Rattle.mux_model.specs.declared.mux.Mux.{Mux}
use Rattle.journal_model.specs.declared.step.Entry.{Entry}
use Rattle.desk_checkpoint.specs.declared.start.Start.{Start}
use Rattle.epg_report.specs.declared.status.Status.{Status}
use Rattle.epg_report.specs.declared.status.Status.TheVariants.{BadCheckpoint, BadMux, Done, Memory, OpenFault, ReadFault, TooLong as PastLimit, WriteFault}
use Rattle.epg_report.specs.declared.status.Origin.TheVariants.{Input, Recording}
use Rattle.epg_report.specs.declared.status.Outlet.TheVariants as outlet
use Rattle.epg_report.specs.Asked.{AtPath, HasAskedFor}
use Rattle.epg_report.specs.Told.{OpenerAsked, ReportTaken, SourceGave, asked, gave, told}
use Rattle.epg_play.specs.Beginning.{IsOfResume}
use Rattle.epg_play.specs.Checkpointed.{HasRun, IsCheckpoint, checkpoint_limit, checkpoint_of}
use Rattle.epg_play.specs.CheckpointRuns.{Nothing, NothingAsked}
use Rattle.epg_play.specs.Leaves.{IsOfPlay}
use Rattle.epg_play.specs.Over.{LeavesOver, described_within}
use Rattle.epg_play.specs.Script.{long_limit}
use Rattle.epg_follow.specs.declared.follower.Follower.{Follower}
use Rattle.epg_follow.specs.declared.stop.FollowStop.{FollowStop}
use Rattle.epg_follow.specs.declared.stop.FollowStop.TheVariants.{Air}
use Rattle.epg_follow.specs.Behind.{FollowsBehind}
use Rattle.epg_follow.specs.Finish.{FinishedBy}
use Rattle.epg_follow.specs.Going.{Stops}

-- What a run leaves over the text of a long script: behind a description that is whole what `Behind` says, and else nothing.
abbrev pub LeavesLong : (Status → Type 0) → (Mux → Ahead → Status → Type 0) → List ℕ → Option (List ℕ) → Status → Type 0
LeavesLong Idle Behind text left Memory =
    Idle Memory ⊎ ((mux : Mux) × (lines : Ahead) × (described_within long_limit text ≡ Came (Ok mux) lines) × Behind mux lines Memory)
LeavesLong Idle Behind text left status = LeavesOver long_limit Idle Behind text left status

-- ---- a start that was followed

-- The script that a reader has still to give was followed from this start on, and the report ended.
pub record HasFollowedOn {S : Type 0} (keep : Bool) (left : S → Option (List ℕ)) (old new : Reading S) (start : Start) (air report : ReportTaken) (status : Status) : Type 0 where
  pub first : Follower
  pub end : Follower
  pub mux_is : first.desk.mux ≡ start.desk.mux
  pub shift_is : first.shift ≡ start.shift
  pub player_is : first.player ≡ start.player
  pub result : Result (Unit {0}) FollowStop
  pub written : Option (List ℕ)
  pub faults : ℕ
  pub did : Stops keep left old new start.desk.entries first end air
      (record { old = report.old; new = written; faults_old = report.faults_old; faults_new = faults }) result
  pub later : report.faults_old ≤ faults
  pub air_cause : result ≡ Err Air → Rose air.faults_old air.faults_new
  pub finished : FinishedBy end result (record { old = written; new = report.new; faults_old = faults; faults_new = report.faults_new }) status

-- the statuses of a script behind its description
abbrev pub IsBehindMux : Status → Type 0
IsBehindMux (BadMux fault) = ⊥
IsBehindMux status = IsOfPlay status

-- ---- `play --follow`

-- A run of `play --follow`, which passes over lines at fault if `keep` says so: what its input gave, what its air and its report took, and
-- its status.
pub record FollowRun (keep : Bool) (input : SourceGave) (air report : ReportTaken) (status : Status) : Type 0 where
  -- what is left with each status
  pub leaves : (text : List ℕ) → input.old ≡ Some text → LeavesLong (Nothing air report) (λ mux. FollowsBehind keep mux [] [] air report) text input.new status
  -- no other status comes
  pub known : IsOfPlay status
  -- with Done the input was read to its end
  pub end : status ≡ Done → IsAtEnd input.new
  -- each fault of the input or of a sink has its cause
  pub input_cause : status ≡ ReadFault Input → Rose input.faults_old input.faults_new
  pub air_cause : status ≡ WriteFault outlet.Air → Rose air.faults_old air.faults_new
  pub report_cause : status ≡ WriteFault outlet.Report → Rose report.faults_old report.faults_new

-- So a call ran with this input, this air and this report.
abbrev pub FollowRan : {S A R : Type 0} → Bool → (S → Option (List ℕ)) → (S → ℕ) → S → S → (A → Option (List ℕ)) → (A → ℕ) → A → A
    → (R → Option (List ℕ)) → (R → ℕ) → R → R → Status → Type 0
FollowRan keep left read_faults input input_then sent air_faults air air_then taken report_faults report report_then status =
    FollowRun keep (gave left read_faults input input_then) (told sent air_faults air air_then) (told taken report_faults report report_then) status

-- ---- `play --follow --resume`

-- the file at the path holds no checkpoint, as the status says
abbrev pub RefusedAt : List ℕ → Files → (Status → Type 0) → Mux → Status → Type 0
RefusedAt path files Idle mux (OpenFault n) = (n ≡ 0) × Idle (OpenFault n)
RefusedAt path files Idle mux (ReadFault Recording) = Idle (ReadFault Recording)
RefusedAt path files Idle mux (PastLimit Recording) = AtPath path files (λ bytes. checkpoint_of mux bytes ≡ Err Overlong) × Idle (PastLimit Recording)
RefusedAt path files Idle mux (BadCheckpoint n) = AtPath path files (λ bytes. checkpoint_of mux bytes ≡ Err (NoLine n)) × Idle (BadCheckpoint n)
RefusedAt path files Idle mux status = Unit {0}

-- What a run leaves behind the description of its multiplex that goes on from the file at this path.
pub record FollowResumes (path : List ℕ) (files : Files) (keep : Bool) (opener : OpenerAsked) (air report : ReportTaken) (mux : Mux) (lines : Ahead) (status : Status) : Type 0 where
  -- the opener was asked for the path
  pub asked : Tries opener.tried_old opener.tried_new path
  -- where the file holds no checkpoint, no step is done
  pub refused : RefusedAt path files (Nothing air report) mux status
  -- Where it holds the checkpoint of a journal and of an air of it, the run goes on after them.
  pub goes_on : (journal : List Entry) (earlier : List Aired) (bytes : List ℕ) → file_at path files ≡ Some bytes → length bytes ≤ checkpoint_limit
      → HasRun mux journal earlier → IsCheckpoint mux journal earlier bytes → FollowsBehind keep mux journal earlier air report lines status

-- A run of `play --follow --resume` from the file of this path: what its opener was asked, what its input gave, what its air and its report
-- took, and its status.
pub record FollowResumeRun (path : List ℕ) (keep : Bool) (opener : OpenerAsked) (input : SourceGave) (air report : ReportTaken) (status : Status) : Type 0 where
  -- what is left with each status
  pub leaves : (text : List ℕ) → input.old ≡ Some text → (files : Files) → opener.files ≡ Some files
      → LeavesLong (NothingAsked opener air report) (FollowResumes path files keep opener air report) text input.new status
  -- no other status comes
  pub known : IsOfResume status
  -- the opener was asked for the path, behind the description of the multiplex
  pub asked_for : HasAskedFor path opener.tried_old opener.tried_new status
  -- with Done the input was read to its end
  pub end : status ≡ Done → IsAtEnd input.new
  -- each fault of the outside has its cause
  pub input_cause : status ≡ ReadFault Input → Rose input.faults_old input.faults_new
  pub open_cause : (n : ℕ) → status ≡ OpenFault n → Rose opener.faults_old opener.faults_new
  pub read_cause : status ≡ ReadFault Recording → Rose opener.read_old opener.read_new
  pub air_cause : status ≡ WriteFault outlet.Air → Rose air.faults_old air.faults_new
  pub report_cause : status ≡ WriteFault outlet.Report → Rose report.faults_old report.faults_new

-- So a call ran with this opener, this input, this air and this report.
abbrev pub FollowResumeRan : {O S A R : Type 0} → List ℕ → Bool → (O → Option Files) → (O → Option (List (List ℕ))) → (O → ℕ) → (O → ℕ) → O → O
    → (S → Option (List ℕ)) → (S → ℕ) → S → S → (A → Option (List ℕ)) → (A → ℕ) → A → A → (R → Option (List ℕ)) → (R → ℕ) → R → R → Status → Type 0
FollowResumeRan path keep files tried open_faults file_faults opener opener_then left read_faults input input_then sent air_faults air air_then taken report_faults report report_then status =
    FollowResumeRun path keep (asked files tried open_faults file_faults opener opener_then) (gave left read_faults input input_then)
    (told sent air_faults air air_then) (told taken report_faults report report_then) status
