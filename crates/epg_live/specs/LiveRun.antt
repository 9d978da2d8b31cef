-- What a run of `live` promises.
use Rattle.std.specs.Prelude.{◌≡◌, ◌⊎◌, ℕ, List, Option, Some}
use Rattle.std.specs.Io.KnownBytes.{IsAtEnd}
use Rattle.headend_live.specs.declared.live.LivePlan.{LivePlan}
use Rattle.si_causes.specs.Causes.{Rose}
use Rattle.si_causes.specs.Opening.{Files}
use Rattle.epg_report.specs.declared.status.Status.{Status}
use Rattle.epg_report.specs.declared.status.Status.TheVariants.{Done, OpenFault, WriteFault, Memory}
use Rattle.epg_report.specs.declared.status.Outlet.TheVariants.{Report}
use Rattle.epg_report.specs.Told.{OpenerAsked, ReportTaken, SourceGave, asked, gave, told}
use Rattle.epg_live.specs.Decided.{AreWhole, text_status}
use Rattle.epg_live.specs.Stops.{HasStatusCause, IsOfLive}
use Rattle.epg_live.specs.Ends.{HasAsked}
use Rattle.epg_live.specs.Leaves.{LeavesLive}

-- nothing failed: neither the input, nor opening or reading a file, nor a sink
pub record IsUnfailing (opener : OpenerAsked) (input : SourceGave) (air report : ReportTaken) : Type 0 where
  pub no_input : ¬ (Rose input.faults_old input.faults_new)
  pub no_opening : ¬ (Rose opener.faults_old opener.faults_new)
  pub no_reading : ¬ (Rose opener.read_old opener.read_new)
  pub no_air : ¬ (Rose air.faults_old air.faults_new)
  pub no_report : ¬ (Rose report.faults_old report.faults_new)

-- A run of `live` over the files of these paths: what its opener was asked, what its input gave, what its air and its report took, and its
-- status.
pub record LiveRun (paths : List (List ℕ)) (plan : LivePlan) (opener : OpenerAsked) (input : SourceGave) (air report : ReportTaken) (status : Status) : Type 0 where
  -- what is left with each status: one journal of all callers, however their threads interleave, its air, how that can be heard, and what
  -- was observed of it
  pub leaves : (text : List ℕ) → input.old ≡ Some text → (files : Files) → opener.files ≡ Some files
      → LeavesLive paths plan text files opener input air report status
  -- where nothing fails, the texts of the input and of the files decide the status, but for want of memory
  pub completes : (text : List ℕ) → input.old ≡ Some text → (files : Files) → opener.files ≡ Some files → IsUnfailing opener input air report
      → (status ≡ Memory) ⊎ (status ≡ text_status text plan.views paths files)
  -- and so texts that are whole are run to their ends
  pub whole : (text : List ℕ) → input.old ≡ Some text → (files : Files) → opener.files ≡ Some files → AreWhole text plan.views paths files
      → IsUnfailing opener input air report → (status ≡ Done) ⊎ (status ≡ Memory)
  -- no other status comes
  pub known : IsOfLive status
  -- the opener was asked for the paths, in order
  pub asked_for : HasAsked paths opener.tried_old opener.tried_new status
  -- with Done the input was read to its end
  pub end : status ≡ Done → IsAtEnd input.new
  -- each fault has its cause
  pub cause : HasStatusCause input.faults_old input.faults_new opener.read_old opener.read_new air.faults_old air.faults_new status
  pub open_cause : (feed : ℕ) → status ≡ OpenFault feed → Rose opener.faults_old opener.faults_new
  pub report_cause : status ≡ WriteFault Report → Rose report.faults_old report.faults_new

-- So a call ran with this opener, this input, this air and this report: of each what tells what it has and its faults, and how it was
-- before and behind.
abbrev pub LiveRan : {O S A R : Type 0} → List (List ℕ) → LivePlan → (O → Option Files) → (O → Option (List (List ℕ))) → (O → ℕ) → (O → ℕ) → O → O
    → (S → Option (List ℕ)) → (S → ℕ) → S → S → (A → Option (List ℕ)) → (A → ℕ) → A → A → (R → Option (List ℕ)) → (R → ℕ) → R → R → Status → Type 0
LiveRan paths plan files tried open_faults file_faults opener opener_then left read_faults input input_then sent air_faults air air_then
    taken report_faults report report_then status =
    LiveRun paths plan (asked files tried open_faults file_faults opener opener_then) (gave left read_faults input input_then)
    (told sent air_faults air air_then) (told taken report_faults report report_then) status
