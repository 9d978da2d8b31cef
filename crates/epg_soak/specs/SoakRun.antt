-- What a run of `soak` promises.
use Rattle.std.specs.Prelude.{◌≡◌, ◌⊎◌, ℕ, List, [], Option, Some}
use Rattle.std.specs.Io.KnownBytes.{Appends}
use Rattle.si_causes.specs.Causes.{Rose}
use Rattle.journal_model.specs.declared.step.Entry.{Entry}
use Rattle.journal_air.specs.SentAir.{SentAir}
use Rattle.epg_report.specs.declared.status.Status.{Status}
use Rattle.epg_report.specs.declared.status.Status.TheVariants.{Done, WriteFault, Memory}
use Rattle.epg_report.specs.declared.status.Outlet.TheVariants.{Air, Report}
use Rattle.epg_report.specs.Told.{ReportTaken, told}
use Rattle.epg_live.specs.declared.reporting.Observed.{Observed}
use Rattle.epg_live.specs.Runs.{Ran}
use Rattle.epg_report.specs.Ends.{ReportEnds}
use Rattle.epg_soak.specs.WorkloadLoad.{soak_mux}
use Rattle.epg_soak.specs.Callers.{IsSoakRun}
use Rattle.epg_soak.specs.Load.{load_call}
use Rattle.epg_soak.specs.Summary.{soak_summary, summary_text}

-- what the report says of a run that met this: with Done the summary, and else nothing but the fault
abbrev pub run_summary : Status → List Entry → Observed → List ℕ
run_summary Done journal observed = summary_text journal observed.guide
run_summary met journal observed = []

-- only the air or the report can fail, and memory be wanting
abbrev pub IsOfSoak : Status → Type 0
IsOfSoak Done = Unit {0}
IsOfSoak (WriteFault outlet) = Unit {0}
IsOfSoak Memory = Unit {0}
IsOfSoak status = ⊥

-- What a run of the load with this number leaves. Its three cycles, and the two of its end, are heard from packet 0 on.
pub record LeftSoak (number : ℕ) (air report : ReportTaken) (status : Status) : Type 0 where
  pub journal : List Entry
  pub observed : Observed
  pub met : Status
  pub left : Option (List ℕ)
  -- the journal has just the commands of each caller that the made texts give, as with `live`; what was sent is its air. No job's own stop is a
  -- failed read, whatever another met, for none failed
  pub ran : Ran (load_call number left air) journal observed met
  -- with Done all of them: those of a whole run of the load
  pub whole : met ≡ Done → IsSoakRun number journal
  -- what was sent is heard as it should be: coherent, exact and spaced
  pub sent : SentAir soak_mux journal air.old air.new
  -- the report is the summary, or the line of the fault
  pub reported : ReportEnds met (run_summary met journal observed) report status

-- So does each run; but want of memory, whoever met it, goes before all.
abbrev pub LeavesSoak : ℕ → ReportTaken → ReportTaken → Status → Type 0
LeavesSoak number air report status = (status ≡ Memory) ⊎ LeftSoak number air report status

-- A run of the load with this number: what its air and its report took, and its status.
pub record SoakRun (number : ℕ) (air report : ReportTaken) (status : Status) : Type 0 where
  -- what is left with each status: one journal of all callers, however their threads interleave, and its air
  pub leaves : LeavesSoak number air report status
  -- with Done the report is the summary that the number determines, where it is known what the air took
  pub summary : status ≡ Done → (sent : List ℕ) → air.old ≡ Some sent → Appends report.old report.new (soak_summary number)
  -- where neither the air nor the report fails, it is Done, but for want of memory
  pub completes : ¬ (Rose air.faults_old air.faults_new) → ¬ (Rose report.faults_old report.faults_new) → (status ≡ Done) ⊎ (status ≡ Memory)
  -- no other status comes, and each fault has its cause
  pub known : IsOfSoak status
  pub air_cause : status ≡ WriteFault Air → Rose air.faults_old air.faults_new
  pub report_cause : status ≡ WriteFault Report → Rose report.faults_old report.faults_new

-- So a call ran with this air and this report: of each what tells the bytes that it took and its faults, and how it was before and behind.
abbrev pub SoakRan : {A R : Type 0} → ℕ → (A → Option (List ℕ)) → (A → ℕ) → A → A → (R → Option (List ℕ)) → (R → ℕ) → R → R → Status → Type 0
SoakRan number sent air_faults air air_then taken report_faults report report_then status =
    SoakRun number (told sent air_faults air air_then) (told taken report_faults report report_then) status
