-- What a run over the sources of a load met.
use Rattle.std.specs.Prelude.{◌≡◌, ℕ, Bool, true, false, List, [], Option, Some}
use Rattle.headend_live.specs.declared.live.LivePlan.{LivePlan}
use Rattle.epg_report.specs.declared.status.Status.{Status}
use Rattle.epg_report.specs.declared.status.Status.TheVariants.{Done, OpenFault, WriteFault, Memory}
use Rattle.epg_report.specs.declared.status.Outlet.TheVariants.{Air}
use Rattle.epg_report.specs.Told.{OpenerAsked, ReportTaken}
use Rattle.epg_live.specs.declared.reporting.LiveResult.{LiveResult}
use Rattle.epg_live.specs.Runs.{LiveCall, ReadFaults, read_faults}
use Rattle.epg_live.specs.Met.{LiveMet}
use Rattle.epg_soak.specs.Runs.{soak_text}
use Rattle.epg_soak.specs.Files.{soak_files, soak_paths}

-- an opener of the load's files, none of which ever failed in a read, was asked
pub record IsOfLoad (number : ℕ) (opener : OpenerAsked) : Type 0 where
  pub files : opener.files ≡ Some (soak_files number)
  pub before : opener.read_old ≡ 0
  pub now : opener.read_new ≡ 0

-- three cycles, heard from packet 0 on, and no view
abbrev pub soak_plan : LivePlan
soak_plan = record { cycles = 3; join = 0; views = [] }

-- neither its input nor a file of its feeds ever failed in a read
abbrev pub never_failed : ReadFaults
never_failed = read_faults 0 0

-- the call of `live` over the load's input and files
abbrev pub load_call : ℕ → Option (List ℕ) → ReportTaken → LiveCall
load_call number left air = record {
  paths = soak_paths;
  plan = soak_plan;
  text = soak_text;
  files = soak_files number;
  left = left;
  faults_before = never_failed;
  faults_now = never_failed;
  before = air.old;
  now = air.new;
}

-- A run of `live` over the load's input and files, with three cycles, heard from packet 0 on.
pub record LoadMet (number : ℕ) (air : ReportTaken) (run : LiveResult) : Type 0 where
  pub opener : OpenerAsked
  pub of_load : IsOfLoad number opener
  pub left : Option (List ℕ)
  pub met : LiveMet soak_paths soak_plan opener (record { old = Some soak_text; new = left; faults_old = 0; faults_new = 0 }) air run

-- What such a run may meet, whose sources never fail and are whole: Done, a fault of the air, and want of memory, be it for the copy of a
-- feed's text.
abbrev pub IsMetByLoad : Status → Type 0
IsMetByLoad Done = Unit {0}
IsMetByLoad (WriteFault Air) = Unit {0}
IsMetByLoad (OpenFault feed) = Unit {0}
IsMetByLoad Memory = Unit {0}
IsMetByLoad status = ⊥

-- whether a run that met this has something to report; else memory was wanting
abbrev pub is_reported : Status → Bool
is_reported Done = true
is_reported (WriteFault outlet) = true
is_reported status = false
