-- The script decides the status of a run where nothing outside of it fails.
use Rattle.std.proofs.Common.{◌≡◌, ℕ, Bool, List, [], ap, refl, sym, subst, inl, inr, ◌⊎◌}
use Rattle.si_causes.specs.Causes.{Rose}
use Rattle.air_model.specs.Air.{Aired}
use Rattle.mux_model.specs.declared.mux.Mux.{Mux}
use Rattle.journal_model.specs.declared.step.Entry.{Entry}
use Rattle.epg_play.specs.CheckpointRuns.{IsUnhindered, Nothing, NothingAsked}
use Rattle.epg_play.specs.Leaves.{Completes, script_status}
use Rattle.epg_play.specs.Script.{Stop}
use Rattle.epg_report.specs.Told.{OpenerAsked, ReportTaken, SourceGave}
use Rattle.epg_report.specs.declared.status.Status.{Status}
use Rattle.epg_report.specs.declared.status.Status.TheVariants.{BadScript, Disagrees, Done, Memory, OpenFault, ReadFault, TooLong, WriteFault}
use Rattle.epg_report.specs.declared.status.Origin.TheVariants.{Feed, Input, Recording}
use Rattle.epg_report.specs.declared.status.Outlet.TheVariants.{Air, Report}
use Rattle.epg_follow.specs.Behind.{FollowedTo, FollowsBehind}
use Rattle.epg_follow.specs.Completing.{FollowResumeRunsComplete, FollowRunsComplete}
use Rattle.epg_follow.specs.Course.{Followed, followed}
use Rattle.epg_follow.specs.Runs.{FollowResumeRun, FollowResumes, FollowRun}
use Rattle.epg_follow.proofs.LongFacts.{behind_long}

-- the statuses of what fails outside of a run
abbrev IsOutside : Status → Type 0
IsOutside (OpenFault n) = Unit {0}
IsOutside (ReadFault origin) = Unit {0}
IsOutside (WriteFault outlet) = Unit {0}
IsOutside status = ⊥

behind_decides : (mux : Mux) (journal : List Entry) (earlier : List Aired) (air report : ReportTaken) (script : Followed) (status : Status) → ¬ (IsOutside status)
    → FollowedTo mux journal earlier air report script status → Completes script.stop status
behind_decides mux journal earlier air report script Done inside did = sym (ap script_status did.stopped)
behind_decides mux journal earlier air report script (BadScript n) inside did = sym (ap script_status did.stopped)
behind_decides mux journal earlier air report script (Disagrees n kept found) inside did = sym (ap script_status did.stopped)
behind_decides mux journal earlier air report script (TooLong Input) inside did = sym (ap script_status did.stopped)
behind_decides mux journal earlier air report script Memory inside did = tt
behind_decides mux journal earlier air report script (OpenFault n) inside did = absurd (inside tt)
behind_decides mux journal earlier air report script (ReadFault origin) inside did = absurd (inside tt)
behind_decides mux journal earlier air report script (WriteFault outlet) inside did = absurd (inside tt)
behind_decides mux journal earlier air report script status inside did = absurd did

-- memory was wanting before any step, or the script decides
long_decides : {Idle Behind : Type 0} (stop : Stop) (status : Status) → (Behind → Completes stop status) → ((status ≡ Memory) × Idle) ⊎ Behind → Completes stop status
long_decides stop status by (inl (memory, idle)) = subst (Completes stop) (sym memory) tt
long_decides stop status by (inr behind) = by behind

not_read : (status : Status) → ¬ (IsOutside status) → ¬ (status ≡ ReadFault Input)
not_read status inside e = inside (subst IsOutside (sym e) tt)

-- no status of the outside comes
new_inside : (keep : Bool) (input : SourceGave) (air report : ReportTaken) → ¬ (Rose input.faults_old input.faults_new) → ¬ (Rose air.faults_old air.faults_new) → ¬ (Rose report.faults_old report.faults_new)
    → (status : Status) → FollowRun keep input air report status → ¬ (IsOutside status)
new_inside keep input air report no_input no_air no_report (OpenFault n) run out = run.known
new_inside keep input air report no_input no_air no_report (ReadFault Input) run out = no_input (run.input_cause refl)
new_inside keep input air report no_input no_air no_report (ReadFault Recording) run out = run.known
new_inside keep input air report no_input no_air no_report (ReadFault (Feed f)) run out = run.known
new_inside keep input air report no_input no_air no_report (WriteFault Air) run out = no_air (run.air_cause refl)
new_inside keep input air report no_input no_air no_report (WriteFault Report) run out = no_report (run.report_cause refl)
new_inside keep input air report no_input no_air no_report status run out = out

resumed_inside : (path : List ℕ) (keep : Bool) (opener : OpenerAsked) (input : SourceGave) (air report : ReportTaken) → IsUnhindered opener input air report
    → (status : Status) → FollowResumeRun path keep opener input air report status → ¬ (IsOutside status)
resumed_inside path keep opener input air report free (OpenFault n) run out = free.no_opening (run.open_cause n refl)
resumed_inside path keep opener input air report free (ReadFault Input) run out = free.no_input (run.input_cause refl)
resumed_inside path keep opener input air report free (ReadFault Recording) run out = free.no_reading (run.read_cause refl)
resumed_inside path keep opener input air report free (ReadFault (Feed f)) run out = run.known
resumed_inside path keep opener input air report free (WriteFault Air) run out = free.no_air (run.air_cause refl)
resumed_inside path keep opener input air report free (WriteFault Report) run out = free.no_report (run.report_cause refl)
resumed_inside path keep opener input air report free status run out = out

pub follow_runs_complete : FollowRunsComplete
follow_runs_complete keep input air report status run no_input no_air no_report text gave mux lines described =
    let inside = new_inside keep input air report no_input no_air no_report status run in
    let script = followed keep 0 mux [] lines in
    long_decides script.stop status (behind_decides mux [] [] air report script status inside)
    (behind_long (Nothing air report) (λ m. FollowsBehind keep m [] [] air report) text input.new mux lines described status (not_read status inside) (run.leaves text gave))

pub follow_resume_runs_complete : FollowResumeRunsComplete
follow_resume_runs_complete path keep opener input air report status run free text gave files opened mux lines described journal earlier bytes file few before checkpoint =
    let inside = resumed_inside path keep opener input air report free status run in
    let script = followed keep 0 mux journal lines in
    long_decides script.stop status (λ (r : FollowResumes path files keep opener air report mux lines status). behind_decides mux journal earlier air report script status inside (r.goes_on journal earlier bytes file few before checkpoint))
    (behind_long (NothingAsked opener air report) (FollowResumes path files keep opener air report) text input.new mux lines described status (not_read status inside) (run.leaves text gave files opened))
