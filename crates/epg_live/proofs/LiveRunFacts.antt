-- A run of `live`, from what it leaves and how it ended.
use Rattle.std.proofs.Common.{◌≡◌, ◌≤◌, ◌⊎◌, ◌∙◌, ℕ, List, length, inl, inr, sym, subst}
use Rattle.std.specs.Prelude.{Option, Some}
use Rattle.std.specs.List.{AllByRecursion}
use Rattle.std.specs.Io.KnownBytes.{IsAtEnd}
use Rattle.headend_live.specs.declared.live.LivePlan.{LivePlan}
use Rattle.si_causes.specs.Causes.{Rose}
use Rattle.si_causes.specs.Opening.{Files}
use Rattle.journal_text.specs.Back.{IsWritten}
use Rattle.epg_report.specs.declared.status.Status.{Status}
use Rattle.epg_report.specs.declared.status.Status.TheVariants.{Done, OpenFault, WriteFault, Memory}
use Rattle.epg_report.specs.declared.status.Outlet.TheVariants.{Report}
use Rattle.epg_report.specs.Told.{OpenerAsked, ReportTaken, SourceGave, gave}
use Rattle.epg_live.specs.Decided.{text_status}
use Rattle.epg_live.specs.Stops.{HasStatusCause, IsOfLive}
use Rattle.epg_live.specs.declared.reporting.LiveResult.{LiveResult}
use Rattle.epg_report.specs.Ends.{ReportEnds}
use Rattle.epg_live.specs.Ends.{HasAsked, entries_of, run_text}
use Rattle.epg_live.specs.Leaves.{LeavesLive}
use Rattle.epg_live.specs.LiveRun.{IsUnfailing, LiveRun}
use Rattle.epg_live.specs.Met.{LiveMet}
use Rattle.epg_live.proofs.DecidedFacts.{decided, whole}
use Rattle.epg_live.proofs.LeavesFacts.{leaves}
use Rattle.epg_live.proofs.MetFacts.{EndsAs, ends_as}

pub live_run : (paths : List (List ℕ)) (plan : LivePlan) (opener : OpenerAsked) (input : SourceGave) (air report : ReportTaken) (status : Status)
    → ((text : List ℕ) → input.old ≡ Some text → (files : Files) → opener.files ≡ Some files → LeavesLive paths plan text files opener input air report status)
    → IsOfLive status → HasAsked paths opener.tried_old opener.tried_new status → (status ≡ Done → IsAtEnd input.new)
    → HasStatusCause input.faults_old input.faults_new opener.read_old opener.read_new air.faults_old air.faults_new status
    → ((feed : ℕ) → status ≡ OpenFault feed → Rose opener.faults_old opener.faults_new) → (status ≡ WriteFault Report → Rose report.faults_old report.faults_new)
    → LiveRun paths plan opener input air report status
live_run paths plan opener input air report status leaves known asked_for end cause open_rose report_rose = record {
  leaves = leaves;
  completes = completes;
  whole = λ text tells files told are none. whole text plan.views paths files status are (completes text tells files told none);
  known = known;
  asked_for = asked_for;
  end = end;
  cause = cause;
  open_cause = open_rose;
  report_cause = report_rose;
}
  where
    completes : (text : List ℕ) → input.old ≡ Some text → (files : Files) → opener.files ≡ Some files → IsUnfailing opener input air report → (status ≡ Memory) ⊎ (status ≡ text_status text plan.views paths files)
    completes text tells files told none =
        decided paths plan text files opener input air report status (leaves text tells files told) cause
        (λ feed e. none.no_opening (open_rose feed e)) none.no_input none.no_reading none.no_air none.no_report

-- where memory was wanting
pub live_memory : (paths : List (List ℕ)) (plan : LivePlan) (opener : OpenerAsked) (input : SourceGave) (air report : ReportTaken) (status : Status) → status ≡ Memory
    → HasAsked paths opener.tried_old opener.tried_new Memory → LiveRun paths plan opener input air report status
live_memory paths plan opener input air report status e asked_for =
    live_run paths plan opener input air report status (λ text tells files told. inl e) (subst IsOfLive (sym e) tt)
    (subst (λ (s : Status). HasAsked paths opener.tried_old opener.tried_new s) (sym e) asked_for) (λ h. absurd (no_end h))
    (subst (λ (s : Status). HasStatusCause input.faults_old input.faults_new opener.read_old opener.read_new air.faults_old air.faults_new s) (sym e) tt)
    (λ feed h. absurd (no_open feed h)) (λ h. absurd (no_report h))
  where
    no_end : status ≡ Done → ⊥
    no_end h = cc

    no_open : (feed : ℕ) → status ≡ OpenFault feed → ⊥
    no_open feed h = cc

    no_report : status ≡ WriteFault Report → ⊥
    no_report h = cc

-- from what it met, and how its report ended
pub live_ends : (paths : List (List ℕ)) (plan : LivePlan) (opener : OpenerAsked) (input : SourceGave) (air report : ReportTaken) (run : LiveResult) (status : Status)
    → length paths ≤ 255 → LiveMet paths plan opener input air run → (status ≡ Memory) ⊎ ReportEnds run.met (run_text (entries_of run.desk) run.observed) report status
    → (status ≡ Memory) ⊎ AllByRecursion IsWritten (entries_of run.desk) → LiveRun paths plan opener input air report status
live_ends paths plan opener input air report run status few m ends written =
    by (ends_as run.met (run_text (entries_of run.desk) run.observed) report status m.known ends)
  where
    left : (status ≡ Memory) ⊎ ReportEnds run.met (run_text (entries_of run.desk) run.observed) report status → (status ≡ Memory) ⊎ AllByRecursion IsWritten (entries_of run.desk)
        → (said : List ℕ) → input.old ≡ Some said → (files : Files) → opener.files ≡ Some files → LeavesLive paths plan said files opener input air report status
    left (inl memory) written said tells files known = inl memory
    left (inr ends) (inl memory) said tells files known = inl memory
    left (inr ends) (inr written) said tells files known =
        leaves paths plan said files opener input air report (entries_of run.desk) run.observed run.met status few written (m.met said tells files known) ends

    by : EndsAs run.met status report → LiveRun paths plan opener input air report status
    by (inl memory) = live_memory paths plan opener input air report status memory (m.asked_for.0, m.asked_for.1, tt)
    by (inr (inl (same, known, no_report))) =
        live_run paths plan opener input air report status (left ends written) (subst IsOfLive (sym same) known)
        (subst (λ (s : Status). HasAsked paths opener.tried_old opener.tried_new s) (sym same) m.asked_for) (λ e. m.end (sym same ∙ e))
        (subst (λ (s : Status). HasStatusCause input.faults_old input.faults_new opener.read_old opener.read_new air.faults_old air.faults_new s) (sym same) m.cause)
        (λ feed e. m.open_cause feed (sym same ∙ e)) (λ e. absurd (no_report (sym same ∙ e)))
    by (inr (inr (done, same, rose))) =
        live_run paths plan opener input air report status (left ends written) (subst IsOfLive (sym same) tt)
        (subst (λ (s : Status). HasAsked paths opener.tried_old opener.tried_new s) (sym same) (subst (λ (s : Status). HasAsked paths opener.tried_old opener.tried_new s) done m.asked_for))
        (λ e. absurd (let bad : WriteFault Report ≡ Done = sym same ∙ e in cc bad))
        (subst (λ (s : Status). HasStatusCause input.faults_old input.faults_new opener.read_old opener.read_new air.faults_old air.faults_new s) (sym same) tt)
        (λ feed e. absurd (let bad : WriteFault Report ≡ OpenFault feed = sym same ∙ e in cc bad)) (λ e. rose)

-- What a run met whose input is the source that its reader had first, and gave back.
pub live_met : {S : Type 0} (left : S → Option (List ℕ)) (faults : S → ℕ) (old first source new : S) (paths : List (List ℕ)) (plan : LivePlan) (opener : OpenerAsked) (air : ReportTaken) (run : LiveResult)
    → first ≡ old → new ≡ source → LiveMet paths plan opener (gave left faults first source) air run → LiveMet paths plan opener (gave left faults old new) air run
live_met {S = S} left faults old first source new paths plan opener air run begins gives met =
    subst (λ (s : S). LiveMet paths plan opener (gave left faults old s) air run) (sym gives)
    (subst (λ (s : S). LiveMet paths plan opener (gave left faults s source) air run) begins met)
