-- How a report ends, by the status that was met.
use Rattle.std.specs.Prelude.{◌≡◌, ◌⊎◌, ◌++◌, List, ℕ, Ok, Err, Result}
use Rattle.std.specs.Io.KnownBytes.{Appends}
use Rattle.si_causes.specs.Causes.{Rose, AppendsFront}
use Rattle.epg_report.specs.declared.status.Status.{Status}
use Rattle.epg_report.specs.declared.status.Status.TheVariants.{Done, WriteFault}
use Rattle.epg_report.specs.declared.status.Outlet.TheVariants.{Report}
use Rattle.epg_report.specs.Texts.{fault_lines}
use Rattle.epg_report.specs.Told.{ReportTaken}

-- the status of a run that met this, and whose report failed: the first fault decides
abbrev pub or_report : Status → Status
or_report Done = WriteFault Report
or_report met = met

-- and whose report was written so
abbrev pub ended_by : {E : Type 0} → Status → Result (Unit {0}) E → Status
ended_by met (Ok u) = met
ended_by met (Err failed) = or_report met

-- How the report of a run ends that met this status, and the status of the run: behind this text stands the line of the fault, if any.
abbrev pub ReportEnds : Status → List ℕ → ReportTaken → Status → Type 0
ReportEnds met text report status =
    (Appends report.old report.new (text ++ fault_lines met) × (status ≡ met))
    ⊎ (Rose report.faults_old report.faults_new × AppendsFront report.old report.new (text ++ fault_lines met) × (status ≡ or_report met))
