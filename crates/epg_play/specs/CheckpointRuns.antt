-- What `play --fold` and `play --resume` leave, for each status, and all that they promise.
use Rattle.std.specs.Prelude.{◌≡◌, ◌≤◌, ℕ, List, [], length, Bool, true, Option, Some, None, Ok, Err}
use Rattle.std.specs.Io.KnownBytes.{Appends, IsAtEnd}
use Rattle.si_causes.specs.Causes.{Rose}
use Rattle.si_causes.specs.Opening.{Files, Tries, file_at}
use Rattle.si_causes.specs.Text.{text_limit}
use Rattle.input_lines.specs.Ahead.{Ahead, Came, NoCommand as NoLine, TooLong as Overlong}
use Rattle.air_model.specs.Air.{Aired}
use Rattle.mux_model.specs.declared.mux.Mux.{Mux}
use Rattle.journal_model.specs.declared.step.Entry.{Entry}
use Rattle.journal_model.specs.Steps.{Command}
use Rattle.desk_checkpoint.specs.Steps.{shift_of}
use Rattle.desk_checkpoint.specs.Checkpoints.{Checkpoint}
use Rattle.epg_report.specs.declared.status.Status.{Status}
use Rattle.epg_report.specs.declared.status.Status.TheVariants.{BadCheckpoint, Done, Memory, OpenFault, ReadFault, TooLong as PastLimit, WriteFault}
use Rattle.epg_report.specs.declared.status.Origin.TheVariants.{Input, Recording}
use Rattle.epg_report.specs.declared.status.Outlet.TheVariants.{Air, Report}
use Rattle.epg_report.specs.Asked.{AtPath, HasAskedFor}
use Rattle.epg_report.specs.Texts.{fault_lines}
use Rattle.epg_report.specs.Told.{OpenerAsked, ReportTaken, Reported, SourceGave, asked, gave, told}
use Rattle.epg_play.specs.Leaves.{Completes, IsOfPlay, script_status}
use Rattle.epg_play.specs.Played.{course}
use Rattle.epg_play.specs.Script.{Stop, Ended, script_within}
use Rattle.epg_play.specs.Checkpointed.{HasRun, IsCheckpoint, checkpoint_limit, checkpoint_of}
use Rattle.epg_play.specs.Over.{LeavesOver, described_within}
use Rattle.epg_play.specs.Beginning.{IsOfResume}
use Rattle.epg_play.specs.Behind.{LeavesBehind}

-- no step is done: the air takes nothing, and the report is only the line of the fault
abbrev pub Nothing : ReportTaken → ReportTaken → Status → Type 0
Nothing air report status = Appends air.old air.new [] × Reported report (fault_lines status)

-- ---- `play --fold`

-- A run of `play --fold` whose script may have so many bytes: what its input gave, what its air and its report took, and its status.
pub record FoldRunWithin (limit : ℕ) (input : SourceGave) (air report : ReportTaken) (status : Status) : Type 0 where
  -- what is left with each status, after a journal without an entry; with Done the report is the checkpoint
  pub leaves : (text : List ℕ) → input.old ≡ Some text
      → LeavesOver limit (Nothing air report) (λ mux. LeavesBehind true mux [] [] air report) text input.new status
  -- where neither the input nor a sink fails, the script decides the status, but for want of memory
  pub completes : (text : List ℕ) → input.old ≡ Some text → ¬ (Rose input.faults_old input.faults_new) → ¬ (Rose air.faults_old air.faults_new)
      → ¬ (Rose report.faults_old report.faults_new) → Completes (script_within limit text).stop status
  -- no other status comes
  pub known : IsOfPlay status
  -- with Done the input was read to its end
  pub end : status ≡ Done → IsAtEnd input.new
  -- each fault of the input or of a sink has its cause
  pub input_cause : status ≡ ReadFault Input → Rose input.faults_old input.faults_new
  pub air_cause : status ≡ WriteFault Air → Rose air.faults_old air.faults_new
  pub report_cause : status ≡ WriteFault Report → Rose report.faults_old report.faults_new

-- a run with the limit of a text
abbrev pub FoldRun : SourceGave → ReportTaken → ReportTaken → Status → Type 0
FoldRun = FoldRunWithin text_limit

-- ---- `play --resume`

-- of the script ahead, what is played on a checkpoint, and why no more is
abbrev pub course_on : Checkpoint → Ahead → List Command × Stop
course_on cp lines = course (shift_of cp.count) cp.desk.mux cp.desk.entries None lines

-- what the status says of why no more was played
abbrev pub Tells : Stop → Status → Type 0
Tells stop (WriteFault Air) = Unit {0}
Tells stop (WriteFault Report) = stop ≡ Ended
Tells stop Memory = Unit {0}
Tells stop status = status ≡ script_status stop

-- Whatever the file holds: it is no checkpoint, and nothing is done; or the script on it was played, as the status tells.
abbrev pub Begins : List ℕ → Files → (Status → Type 0) → Mux → Ahead → Status → Type 0
Begins path files Idle mux lines (OpenFault n) = (n ≡ 0) × Idle (OpenFault n)
Begins path files Idle mux lines (ReadFault Recording) = Idle (ReadFault Recording)
Begins path files Idle mux lines (PastLimit Recording) = AtPath path files (λ bytes. checkpoint_of mux bytes ≡ Err Overlong) × Idle (PastLimit Recording)
Begins path files Idle mux lines Memory = Unit {0}
Begins path files Idle mux lines (BadCheckpoint n) = AtPath path files (λ bytes. checkpoint_of mux bytes ≡ Err (NoLine n)) × Idle (BadCheckpoint n)
Begins path files Idle mux lines status =
    AtPath path files (λ bytes. (cp : Checkpoint) × (checkpoint_of mux bytes ≡ Ok cp) × Tells (course_on cp lines).1 status)

-- The description ended the run: the opener was asked for no path, and no step is done.
abbrev pub NothingAsked : OpenerAsked → ReportTaken → ReportTaken → Status → Type 0
NothingAsked opener air report status = (opener.tried_new ≡ opener.tried_old) × Nothing air report status

-- What a run leaves, after the description of its multiplex, that goes on from the file at this path.
pub record Resumes (path : List ℕ) (files : Files) (fold : Bool) (opener : OpenerAsked) (air report : ReportTaken) (mux : Mux) (lines : Ahead) (status : Status) : Type 0 where
  -- the opener was asked for the path
  pub asked : Tries opener.tried_old opener.tried_new path
  -- whatever the file holds
  pub begins : Begins path files (Nothing air report) mux lines status
  -- Where it holds the checkpoint of a journal and of an air of it, the run goes on after them, and
  -- the checkpoint is never refused. Without `--fold` the report is only of what is new.
  pub goes_on : (journal : List Entry) (earlier : List Aired) (bytes : List ℕ) → file_at path files ≡ Some bytes → length bytes ≤ checkpoint_limit
      → HasRun mux journal earlier → IsCheckpoint mux journal earlier bytes → LeavesBehind fold mux journal earlier air report lines status

-- nothing failed: neither the input, nor opening or reading the file, nor a sink
pub record IsUnhindered (opener : OpenerAsked) (input : SourceGave) (air report : ReportTaken) : Type 0 where
  pub no_input : ¬ (Rose input.faults_old input.faults_new)
  pub no_opening : ¬ (Rose opener.faults_old opener.faults_new)
  pub no_reading : ¬ (Rose opener.read_old opener.read_new)
  pub no_air : ¬ (Rose air.faults_old air.faults_new)
  pub no_report : ¬ (Rose report.faults_old report.faults_new)

-- A run of `play --resume` from the file of this path, with `--fold` or without, whose script may have so many bytes: what its opener was
-- asked, what its input gave, what its air and its report took, and its status.
pub record ResumeRunWithin (limit : ℕ) (path : List ℕ) (fold : Bool) (opener : OpenerAsked) (input : SourceGave) (air report : ReportTaken) (status : Status) : Type 0 where
  -- what is left with each status
  pub leaves : (text : List ℕ) → input.old ≡ Some text → (files : Files) → opener.files ≡ Some files
      → LeavesOver limit (NothingAsked opener air report) (Resumes path files fold opener air report) text input.new status
  -- where nothing fails and the file holds a checkpoint, the script on it decides the status, but for want of memory
  pub completes : (text : List ℕ) → input.old ≡ Some text → (files : Files) → opener.files ≡ Some files → IsUnhindered opener input air report
      → (mux : Mux) (lines : Ahead) → described_within limit text ≡ Came (Ok mux) lines → (bytes : List ℕ) → file_at path files ≡ Some bytes
      → (cp : Checkpoint) → checkpoint_of mux bytes ≡ Ok cp → Completes (course_on cp lines).1 status
  -- no other status comes
  pub known : IsOfResume status
  -- the opener was asked for the path, after the description of the multiplex
  pub asked_for : HasAskedFor path opener.tried_old opener.tried_new status
  -- with Done the input was read to its end
  pub end : status ≡ Done → IsAtEnd input.new
  -- each fault of the outside has its cause
  pub input_cause : status ≡ ReadFault Input → Rose input.faults_old input.faults_new
  pub open_cause : (n : ℕ) → status ≡ OpenFault n → Rose opener.faults_old opener.faults_new
  pub read_cause : status ≡ ReadFault Recording → Rose opener.read_old opener.read_new
  pub air_cause : status ≡ WriteFault Air → Rose air.faults_old air.faults_new
  pub report_cause : status ≡ WriteFault Report → Rose report.faults_old report.faults_new

-- a run with the limit of a text
abbrev pub ResumeRun : List ℕ → Bool → OpenerAsked → SourceGave → ReportTaken → ReportTaken → Status → Type 0
ResumeRun = ResumeRunWithin text_limit

-- ---- of a call

-- So a call ran with this input, this air and this report: of each what tells its bytes and its faults, and how it was before and after.
abbrev pub FoldRanWithin : {S A R : Type 0} → ℕ → (S → Option (List ℕ)) → (S → ℕ) → S → S → (A → Option (List ℕ)) → (A → ℕ) → A → A
    → (R → Option (List ℕ)) → (R → ℕ) → R → R → Status → Type 0
FoldRanWithin limit left read_faults input input_then sent air_faults air air_then taken report_faults report report_then status =
    FoldRunWithin limit (gave left read_faults input input_then) (told sent air_faults air air_then) (told taken report_faults report report_then) status

abbrev pub FoldRan : {S A R : Type 0} → (S → Option (List ℕ)) → (S → ℕ) → S → S → (A → Option (List ℕ)) → (A → ℕ) → A → A
    → (R → Option (List ℕ)) → (R → ℕ) → R → R → Status → Type 0
FoldRan left read_faults input input_then sent air_faults air air_then taken report_faults report report_then status =
    FoldRanWithin text_limit left read_faults input input_then sent air_faults air air_then taken report_faults report report_then status

-- and with this opener
abbrev pub ResumeRanWithin : {O S A R : Type 0} → ℕ → List ℕ → Bool → (O → Option Files) → (O → Option (List (List ℕ))) → (O → ℕ) → (O → ℕ) → O → O
    → (S → Option (List ℕ)) → (S → ℕ) → S → S → (A → Option (List ℕ)) → (A → ℕ) → A → A → (R → Option (List ℕ)) → (R → ℕ) → R → R → Status → Type 0
ResumeRanWithin limit path fold files tried open_faults file_faults opener opener_then left read_faults input input_then sent air_faults air air_then taken report_faults report report_then status =
    ResumeRunWithin limit path fold (asked files tried open_faults file_faults opener opener_then) (gave left read_faults input input_then)
    (told sent air_faults air air_then) (told taken report_faults report report_then) status

abbrev pub ResumeRan : {O S A R : Type 0} → List ℕ → Bool → (O → Option Files) → (O → Option (List (List ℕ))) → (O → ℕ) → (O → ℕ) → O → O
    → (S → Option (List ℕ)) → (S → ℕ) → S → S → (A → Option (List ℕ)) → (A → ℕ) → A → A → (R → Option (List ℕ)) → (R → ℕ) → R → R → Status → Type 0
ResumeRan path fold files tried open_faults file_faults opener opener_then left read_faults input input_then sent air_faults air air_then taken report_faults report report_then status =
    ResumeRanWithin text_limit path fold files tried open_faults file_faults opener opener_then left read_faults input input_then sent air_faults air air_then taken report_faults report report_then status
