-- What a run of `audit` leaves, for each status, and all that it promises.
use Rattle.std.specs.Prelude.{◌≡◌, ◌⊎◌, ℕ, Bool, List, Option, Some}
use Rattle.std.specs.Io.KnownBytes.{Appends, IsAtEnd}
use Rattle.si_causes.specs.Causes.{Rose, AppendsFront}
use Rattle.si_causes.specs.Opening.{Files}
use Rattle.version_book.specs.Airings.{AiredTables}
use Rattle.epg_report.specs.declared.status.Status.{Status}
use Rattle.epg_report.specs.declared.status.Status.TheVariants.{Done, Memory, WriteFault}
use Rattle.epg_report.specs.declared.status.Outlet.TheVariants.{Report}
use Rattle.epg_report.specs.Texts.{fault_lines}
use Rattle.epg_report.specs.Told.{OpenerAsked, ReportTaken, Reported, SourceGave, asked, gave, told}
use Rattle.epg_play.specs.Script.{Ended, script_in}
use Rattle.epg_audit.specs.declared.cycles.AirCount.{AirCount}
use Rattle.epg_audit.specs.Ends.{air_line}
use Rattle.epg_report.specs.Asked.{AtPath, HasAskedFor}
use Rattle.epg_audit.specs.Finds.{HasMetCause, IsAccepted, IsFound, IsMetByAudit}
use Rattle.epg_audit.specs.Recorded.{IsFaulty, IsRecordedAir, rate_in, script_airings}

-- What a run of `audit` leaves with each status. With Done the report is the one line of the air, and with a fault only its line.
abbrev pub LeavesAudit : List ℕ → Bool → Files → OpenerAsked → List ℕ → Option (List ℕ) → ReportTaken → Status → Type 0
LeavesAudit path nulls files opener text left report Done = (count : AirCount) × IsAccepted path nulls files (script_in text) count × Appends report.old report.new (air_line count)
LeavesAudit path nulls files opener text left report (WriteFault Report) =
    (count : AirCount) × IsAccepted path nulls files (script_in text) count × AppendsFront report.old report.new (air_line count)
LeavesAudit path nulls files opener text left report Memory = Unit {0}
LeavesAudit path nulls files opener text left report status = IsFound path nulls files opener text left status × Reported report (fault_lines status)

-- the statuses of `audit`
abbrev pub IsOfAudit : Status → Type 0
IsOfAudit Done = Unit {0}
IsOfAudit (WriteFault Report) = Unit {0}
IsOfAudit status = IsMetByAudit status

-- Of a whole script, the recording decides the status: Done where it is an air, and else what is at fault.
abbrev pub DecidedBy : Option ℕ → Bool → List AiredTables → Status → List ℕ → Type 0
DecidedBy rate nulls airings Done bytes = IsRecordedAir rate nulls airings bytes
DecidedBy rate nulls airings status bytes = IsFaulty rate nulls airings bytes status

-- nothing failed: neither the input, nor opening or reading the file, nor the report
pub record IsUnhindered (opener : OpenerAsked) (input : SourceGave) (report : ReportTaken) : Type 0 where
  pub no_input : ¬ (Rose input.faults_old input.faults_new)
  pub no_opening : ¬ (Rose opener.faults_old opener.faults_new)
  pub no_reading : ¬ (Rose opener.read_old opener.read_new)
  pub no_report : ¬ (Rose report.faults_old report.faults_new)

-- A run of `audit` over the file of this path, in which null packets may stand or not: what its opener was asked, what its input gave, what its report took, and its status.
pub record AuditRun (path : List ℕ) (nulls : Bool) (opener : OpenerAsked) (input : SourceGave) (report : ReportTaken) (status : Status) : Type 0 where
  -- what is left with each status: what was found of the script and of the recording, and the report; the opener was asked for no path where the
  -- description ended the run
  pub leaves : (text : List ℕ) → input.old ≡ Some text → (files : Files) → opener.files ≡ Some files → LeavesAudit path nulls files opener text input.new report status
  -- where nothing fails and the script is whole, the recording decides the status, but for want of memory
  pub decides : (text : List ℕ) → input.old ≡ Some text → (files : Files) → opener.files ≡ Some files → (script_in text).stop ≡ Ended → IsUnhindered opener input report
      → (status ≡ Memory) ⊎ AtPath path files
      (DecidedBy (rate_in (script_in text).mux) nulls (script_airings (script_in text)) status)
  -- and so a recording that is an air of the journal of that script is accepted
  pub accepts : (text : List ℕ) → input.old ≡ Some text → (files : Files) → opener.files ≡ Some files → (script_in text).stop ≡ Ended → IsUnhindered opener input report
      → AtPath path files (IsRecordedAir (rate_in (script_in text).mux) nulls
      (script_airings (script_in text))) → (status ≡ Done) ⊎ (status ≡ Memory)
  -- no other status comes
  pub known : IsOfAudit status
  -- the opener was asked for the path
  pub asked_for : HasAskedFor path opener.tried_old opener.tried_new status
  -- with Done the input was read to its end
  pub end : status ≡ Done → IsAtEnd input.new
  -- each fault of the outside has its cause
  pub cause : HasMetCause input.faults_old input.faults_new opener status
  pub report_cause : status ≡ WriteFault Report → Rose report.faults_old report.faults_new

-- So a call ran with this opener, this input and this report: of each what tells what it has and its faults, and how it was before and
-- after.
abbrev pub AuditRan : {O S R : Type 0} → List ℕ → Bool → (O → Option Files) → (O → Option (List (List ℕ))) → (O → ℕ) → (O → ℕ) → O → O
    → (S → Option (List ℕ)) → (S → ℕ) → S → S → (R → Option (List ℕ)) → (R → ℕ) → R → R → Status → Type 0
AuditRan path nulls files tried open_faults file_faults opener opener_then left read_faults input input_then taken report_faults report report_then status =
    AuditRun path nulls (asked files tried open_faults file_faults opener opener_then) (gave left read_faults input input_then)
    (told taken report_faults report report_then) status
