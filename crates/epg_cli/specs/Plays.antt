-- How a run of `play` ends, whatever its options.
use Rattle.std.specs.Prelude.{◌≡◌, ℕ}
use Rattle.std.specs.Io.KnownBytes.{IsAtEnd}
use Rattle.si_causes.specs.Causes.{Rose}
use Rattle.epg_report.specs.declared.status.Status.{Status}
use Rattle.epg_report.specs.declared.status.Status.TheVariants.{Done, OpenFault, Usage, WriteFault}
use Rattle.epg_report.specs.declared.status.Outlet.TheVariants.{Report}
use Rattle.epg_report.specs.Told.{OpenerAsked, ReportTaken, SourceGave}
use Rattle.epg_live.specs.Stops.{HasStatusCause}

-- with Done the input was read to its end, and each fault has its cause
pub record PlayEnds (opener : OpenerAsked) (input : SourceGave) (air report : ReportTaken) (status : Status) : Type 0 where
  pub no_usage : status ≡ Usage → ⊥
  pub end : status ≡ Done → IsAtEnd input.new
  pub cause : HasStatusCause input.faults_old input.faults_new opener.read_old opener.read_new air.faults_old air.faults_new status
  pub open_cause : (n : ℕ) → status ≡ OpenFault n → Rose opener.faults_old opener.faults_new
  pub report_cause : status ≡ WriteFault Report → Rose report.faults_old report.faults_new
