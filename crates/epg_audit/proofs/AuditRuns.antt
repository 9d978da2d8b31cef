-- A run of `audit`, from what it found and how its report ended.
use Rattle.std.proofs.Common.{◌≡◌, ℕ, Bool, suc, ◌≤◌, List, ◌++◌, take, drop, refl, sym, ap, ◌∙◌, subst, arith, append-nil, inl, inr, ◌⊎◌}
use Rattle.std.specs.Prelude.{Option, Some, Ok, Err, Result, IfErr, OnOk}
use Rattle.std.specs.Io.KnownBytes.{Appends, IsAtEnd}
use Rattle.std.proofs.lemmas.List.{take-append-drop}
use Rattle.si_causes.specs.Causes.{Rose, AppendsFront}
use Rattle.si_causes.proofs.CauseFacts.{Rose-from}
use Rattle.si_causes.specs.Opening.{Files, TakesBack, Tries, file_at}
use Rattle.mux_model.specs.declared.mux.Mux.{Mux}
use Rattle.version_book.specs.Airings.{AiredTables}
use Rattle.ts_packets.specs.WholePackets.{whole_packets}
use Rattle.epg_report.specs.declared.status.Status.{Status}
use Rattle.epg_report.specs.declared.status.Status.TheVariants.{Done, BadMux, BadStream, TooLong as PastLimit, OpenFault, ReadFault, WriteFault, Memory, NotAir, Short}
use Rattle.epg_report.specs.declared.status.Origin.TheVariants.{Input, Recording}
use Rattle.epg_report.specs.declared.status.Outlet.TheVariants.{Report}
use Rattle.epg_report.specs.Ends.{ReportEnds, or_report}
use Rattle.epg_report.specs.Texts.{fault_lines}
use Rattle.epg_report.specs.Asked.{AtPath, HasAskedFor}
use Rattle.epg_report.specs.Told.{OpenerAsked, ReportTaken, Reported, SourceGave}
use Rattle.epg_report.proofs.Asking.{asked_memory, some_fault}
use Rattle.epg_play.specs.Script.{Ended, script_in}
use Rattle.epg_play.specs.Leaves.{script_status, whole_journal}
use Rattle.epg_audit.specs.declared.cycles.AirCount.{AirCount}
use Rattle.epg_audit.specs.Ends.{air_line, count_text, met_by}
use Rattle.epg_audit.specs.Audits.{HasAuditCause}
use Rattle.epg_audit.specs.Finds.{FindsIn, HasMetCause, IsAtFault, IsFound, IsMetBehind, IsMetByAudit}
use Rattle.epg_audit.specs.Leaves.{AuditRun, DecidedBy, IsOfAudit, IsUnhindered, LeavesAudit}
use Rattle.epg_audit.specs.Recorded.{IsFaulty, IsRecordedAir, airings_for, script_airings, rate_in}
use Rattle.epg_audit.proofs.Nulls.{seen_parts}
use Rattle.air_audit.specs.CycleAirs.{AreAirAt}
use Rattle.air_audit.proofs.CycleLaws.{air_begins}
use Rattle.air_audit.specs.TimedAirs.{seen}

abbrev pub Finished : Result AirCount Status → ReportTaken → Status → Type 0
Finished audited report status = (status ≡ Memory) ⊎ ReportEnds (met_by audited) (count_text audited) report status

same_met : (met : Status) → IsMetByAudit met → or_report met ≡ met
same_met Done is = absurd is
same_met other is = refl

-- ---- what is left

leaves_met : (path : List ℕ) (nulls : Bool) (files : Files) (opener : OpenerAsked) (text : List ℕ) (left : Option (List ℕ)) (report : ReportTaken) (met : Status) → IsMetByAudit met → IsFound path nulls files opener text left met → Reported report (fault_lines met)
    → LeavesAudit path nulls files opener text left report met
leaves_met path nulls files opener text left report Done is found took = absurd is
leaves_met path nulls files opener text left report (WriteFault Report) is found took = absurd is
leaves_met path nulls files opener text left report Memory is found took = tt
leaves_met path nulls files opener text left report other is found took = (found, took)

leaves_of : (path : List ℕ) (nulls : Bool) (files : Files) (opener : OpenerAsked) (text : List ℕ) (left : Option (List ℕ)) (report : ReportTaken) (audited : Result AirCount Status) (status : Status) → IfErr audited IsMetByAudit
    → FindsIn path nulls files opener text left audited → Finished audited report status → LeavesAudit path nulls files opener text left report status
leaves_of path nulls files opener text left report audited status is found (inl memory) = subst (LeavesAudit path nulls files opener text left report) (sym memory) tt
leaves_of path nulls files opener text left report (Ok count) status is found (inr (inl (took, same))) =
    subst (LeavesAudit path nulls files opener text left report) (sym same) (count, found, subst (Appends report.old report.new) (append-nil (air_line count)) took)
leaves_of path nulls files opener text left report (Ok count) status is found (inr (inr (rose, took, same))) =
    subst (LeavesAudit path nulls files opener text left report) (sym same) (count, found, subst (AppendsFront report.old report.new) (append-nil (air_line count)) took)
leaves_of path nulls files opener text left report (Err met) status is found (inr (inl (took, same))) =
    subst (LeavesAudit path nulls files opener text left report) (sym same) (leaves_met path nulls files opener text left report met is found (inl took))
leaves_of path nulls files opener text left report (Err met) status is found (inr (inr (rose, took, same))) =
    subst (LeavesAudit path nulls files opener text left report) (sym (same ∙ same_met met is)) (leaves_met path nulls files opener text left report met is found (inr (rose, took)))

-- ---- statuses

met_audit : (met : Status) → IsMetByAudit met → IsOfAudit met
met_audit Done is = tt
met_audit (WriteFault Report) is = tt
met_audit other is = is

of_audit : (report : ReportTaken) (audited : Result AirCount Status) (status : Status) → IfErr audited IsMetByAudit → Finished audited report status → IsOfAudit status
of_audit report audited status is (inl memory) = subst IsOfAudit (sym memory) tt
of_audit report (Ok count) status is (inr (inl (took, same))) = subst IsOfAudit (sym same) tt
of_audit report (Ok count) status is (inr (inr (rose, took, same))) = subst IsOfAudit (sym same) tt
of_audit report (Err met) status is (inr (inl (took, same))) = subst IsOfAudit (sym same) (met_audit met is)
of_audit report (Err met) status is (inr (inr (rose, took, same))) = subst IsOfAudit (sym (same ∙ same_met met is)) (met_audit met is)

asked_of : (path : List ℕ) (old new : Option (List (List ℕ))) (report : ReportTaken) (audited : Result AirCount Status) (status : Status) → IfErr audited IsMetByAudit → HasAskedFor path old new (met_by audited)
    → Finished audited report status → HasAskedFor path old new status
asked_of path old new report audited status is asked (inl memory) = subst (HasAskedFor path old new) (sym memory) (asked_memory path old new (met_by audited) asked)
asked_of path old new report (Ok count) status is asked (inr (inl (took, same))) = subst (HasAskedFor path old new) (sym same) asked
asked_of path old new report (Ok count) status is asked (inr (inr (rose, took, same))) = subst (HasAskedFor path old new) (sym same) asked
asked_of path old new report (Err met) status is asked (inr (inl (took, same))) = subst (HasAskedFor path old new) (sym same) asked
asked_of path old new report (Err met) status is asked (inr (inr (rose, took, same))) = subst (HasAskedFor path old new) (sym (same ∙ same_met met is)) asked

caused : (input_before input_now : ℕ) (opener : OpenerAsked) (report : ReportTaken) (audited : Result AirCount Status) (status : Status) → IfErr audited IsMetByAudit
    → IfErr audited (HasMetCause input_before input_now opener) → Finished audited report status → HasMetCause input_before input_now opener status
caused input_before input_now opener report audited status is cause (inl memory) = subst (HasMetCause input_before input_now opener) (sym memory) tt
caused input_before input_now opener report (Ok count) status is cause (inr (inl (took, same))) = subst (HasMetCause input_before input_now opener) (sym same) tt
caused input_before input_now opener report (Ok count) status is cause (inr (inr (rose, took, same))) = subst (HasMetCause input_before input_now opener) (sym same) tt
caused input_before input_now opener report (Err met) status is cause (inr (inl (took, same))) = subst (HasMetCause input_before input_now opener) (sym same) cause
caused input_before input_now opener report (Err met) status is cause (inr (inr (rose, took, same))) = subst (HasMetCause input_before input_now opener) (sym (same ∙ same_met met is)) cause

report_caused : (report : ReportTaken) (audited : Result AirCount Status) (status : Status) → IfErr audited IsMetByAudit → Finished audited report status → status ≡ WriteFault Report → Rose report.faults_old report.faults_new
report_caused report audited status is (inl memory) e = (let no : Memory ≡ WriteFault Report = sym memory ∙ e in cc no)
report_caused report (Ok count) status is (inr (inl (took, same))) e = (let no : Done ≡ WriteFault Report = sym same ∙ e in cc no)
report_caused report (Ok count) status is (inr (inr (rose, took, same))) e = rose
report_caused report (Err met) status is (inr (inl (took, same))) e = absurd (subst IsMetByAudit (sym same ∙ e) is)
report_caused report (Err met) status is (inr (inr (rose, took, same))) e = rose

ended_of : (left : Option (List ℕ)) (report : ReportTaken) (audited : Result AirCount Status) (status : Status) → IfErr audited IsMetByAudit → OnOk audited (IsAtEnd left) → Finished audited report status → status ≡ Done → IsAtEnd left
ended_of left report audited status is end (inl memory) e = (let no : Memory ≡ Done = sym memory ∙ e in cc no)
ended_of left report (Ok count) status is end (inr finished) e = end
ended_of left report (Err met) status is end (inr (inl (took, same))) e = absurd (subst IsMetByAudit (sym same ∙ e) is)
ended_of left report (Err met) status is end (inr (inr (rose, took, same))) e = absurd (subst IsMetByAudit (sym (same ∙ same_met met is) ∙ e) is)

-- ---- where nothing fails

module _ (path : List ℕ) (nulls : Bool) (files : Files) (opener : OpenerAsked) (text : List ℕ) (left : Option (List ℕ)) (report : ReportTaken) where
  abbrev aired : List AiredTables
  aired = script_airings (script_in text)

  abbrev rate : Option ℕ
  rate = rate_in (script_in text).mux

  abbrev Decided : Status → Type 0
  Decided status = (status ≡ Memory) ⊎ AtPath path files (DecidedBy rate nulls aired status)

  at_fault : (status : Status) → AtPath path files (IsAtFault nulls (script_in text) status)
      → AtPath path files (λ bytes. IsFaulty rate nulls aired bytes status)
  at_fault status at = record { bytes = at.bytes; file = at.file; is = at.is.faulty }

  decided : (status : Status) → LeavesAudit path nulls files opener text left report status → (script_in text).stop ≡ Ended → (status ≡ ReadFault Input → ⊥) → (status ≡ ReadFault Recording → ⊥) → ((n : ℕ) → status ≡ OpenFault n → ⊥)
      → (status ≡ WriteFault Report → ⊥) → Decided status
  decided Done (count, accepted, took) ended no_input no_reading no_opening no_report =
      inr (record {
        bytes = accepted.bytes;
        file = accepted.file;
        is =
            subst (λ (o : Option Mux). IsRecordedAir (rate_in o) nulls
            (airings_for o (whole_journal (script_in text))) accepted.bytes) (sym accepted.described)
            accepted.air;
      })
  decided (WriteFault Report) leaves ended no_input no_reading no_opening no_report = absurd (no_report refl)
  decided Memory leaves ended no_input no_reading no_opening no_report = inl refl
  decided (ReadFault Input) leaves ended no_input no_reading no_opening no_report = absurd (no_input refl)
  decided (ReadFault Recording) leaves ended no_input no_reading no_opening no_report = absurd (no_reading refl)
  decided (OpenFault n) leaves ended no_input no_reading no_opening no_report = absurd (no_opening n refl)
  decided (PastLimit Recording) leaves ended no_input no_reading no_opening no_report = inr (at_fault (PastLimit Recording) leaves.0)
  decided (BadStream n) leaves ended no_input no_reading no_opening no_report = inr (at_fault (BadStream n) leaves.0)
  decided (NotAir n rule) leaves ended no_input no_reading no_opening no_report = inr (at_fault (NotAir n rule) leaves.0)
  decided (Short n) leaves ended no_input no_reading no_opening no_report = inr (at_fault (Short n) leaves.0)
  decided other leaves ended no_input no_reading no_opening no_report = cc (leaves.0.stopped ∙ ap script_status ended)

  -- ---- an air is not at fault

  front_begins : (airings : List AiredTables) (bytes : List ℕ) (n : ℕ)
      (air : IsRecordedAir rate nulls airings bytes)
      → AreAirAt rate nulls airings (seen nulls (take n (whole_packets bytes))
      ++ seen nulls (drop n (whole_packets bytes)))
  front_begins airings bytes n air =
      subst (AreAirAt rate nulls airings)
      (sym (ap (seen nulls) (take-append-drop n (whole_packets bytes)))
      ∙ seen_parts nulls (take n (whole_packets bytes)) (drop n (whole_packets bytes))) air.air

  no_fault : (airings : List AiredTables) (bytes : List ℕ) (status : Status)
      → IsRecordedAir rate nulls airings bytes → (status ≡ ReadFault Recording → ⊥)
      → IsFaulty rate nulls airings bytes status → ⊥
  no_fault airings bytes (NotAir n rule) air no_reading faulty =
      faulty.0.differs (air_begins rate nulls airings
      (seen nulls (take (suc n) (whole_packets bytes)))
      (seen nulls (drop (suc n) (whole_packets bytes))) (front_begins airings bytes (suc n) air))
  no_fault airings bytes (Short n) air no_reading faulty = faulty.no_air air.air
  no_fault airings bytes (BadStream n) air no_reading faulty = omega (arith, faulty.more, faulty.less, air.whole)
  no_fault airings bytes (PastLimit Recording) air no_reading faulty = omega (arith, faulty.more, air.whole, air.limit)
  no_fault airings bytes (ReadFault Recording) air no_reading faulty = no_reading refl
  no_fault airings bytes other air no_reading faulty = faulty

  accept_by : (airings : List AiredTables) (bytes : List ℕ) (status : Status)
      → IsRecordedAir rate nulls airings bytes → (status ≡ ReadFault Recording → ⊥)
      → DecidedBy rate nulls airings status bytes → (status ≡ Done) ⊎ (status ≡ Memory)
  accept_by airings bytes Done air no_reading by = inl refl
  accept_by airings bytes other air no_reading by = absurd (no_fault airings bytes other air no_reading by)

  same_bytes : (a b : List ℕ) → file_at path files ≡ Some a → file_at path files ≡ Some b → a ≡ b
  same_bytes a b at too = (let same : (let o : Option (List ℕ) = Some a in o) ≡ Some b = sym at ∙ too in cc same)

  accepts : (status : Status) → Decided status → AtPath path files (IsRecordedAir rate nulls aired)
      → (status ≡ ReadFault Recording → ⊥) → (status ≡ Done) ⊎ (status ≡ Memory)
  accepts status (inl memory) air no_reading = inr memory
  accepts status (inr by) air no_reading =
      accept_by aired by.bytes status
      (subst (IsRecordedAir rate nulls aired) (same_bytes air.bytes by.bytes air.file by.file)
      air.is) no_reading by.is

-- ---- the run

pub audit_run : (path : List ℕ) (nulls : Bool) (opener : OpenerAsked) (input : SourceGave) (report : ReportTaken) (audited : Result AirCount Status) (status : Status) → IfErr audited IsMetByAudit
    → ((text : List ℕ) → input.old ≡ Some text → (files : Files) → opener.files ≡ Some files → FindsIn path nulls files opener text input.new audited) → OnOk audited (IsAtEnd input.new)
    → IfErr audited (HasMetCause input.faults_old input.faults_new opener) → HasAskedFor path opener.tried_old opener.tried_new (met_by audited) → Finished audited report status
    → AuditRun path nulls opener input report status
audit_run path nulls opener input report audited status is finds end cause asked finished =
    let leaves = λ (text : List ℕ) (tells : input.old ≡ Some text) (files : Files) (has : opener.files ≡ Some files). leaves_of path nulls files opener text input.new report audited status is (finds text tells files has) finished in
    let causes = caused input.faults_old input.faults_new opener report audited status is cause finished in
    let rose = report_caused report audited status is finished in
    let decide = λ (text : List ℕ) (tells : input.old ≡ Some text) (files : Files) (has : opener.files ≡ Some files) (ended : (script_in text).stop ≡ Ended) (none : IsUnhindered opener input report).
    decided path nulls files opener text input.new report status (leaves text tells files has) ended (λ e. none.no_input (subst (HasMetCause input.faults_old input.faults_new opener) e causes))
    (λ e. none.no_reading (subst (HasMetCause input.faults_old input.faults_new opener) e causes)) (λ n e. none.no_opening (subst (HasMetCause input.faults_old input.faults_new opener) e causes)) (λ e. none.no_report (rose e)) in
    record {
      leaves = leaves;
      decides = decide;
      accepts = λ text tells files has ended none air.
          accepts path nulls files opener text input.new report status (decide text tells files has ended none) air (λ e. none.no_reading (subst (HasMetCause input.faults_old input.faults_new opener) e causes));
      known = of_audit report audited status is finished;
      asked_for = asked_of path opener.tried_old opener.tried_new report audited status is asked finished;
      end = ended_of input.new report audited status is end finished;
      cause = causes;
      report_cause = rose;
    }

-- where memory was wanting before anything was read
pub audit_memory : (path : List ℕ) (nulls : Bool) (opener : OpenerAsked) (input : SourceGave) (report : ReportTaken) (status : Status) → status ≡ Memory → opener.tried_new ≡ opener.tried_old → AuditRun path nulls opener input report status
audit_memory path nulls opener input report status e same = subst (AuditRun path nulls opener input report) (sym e) (record {
  leaves = λ text tells files has. tt;
  decides = λ text tells files has ended none. inl refl;
  accepts = λ text tells files has ended none air. inr refl;
  known = tt;
  asked_for = inl same;
  end = λ h. (let no : Memory ≡ Done = h in cc no);
  cause = tt;
  report_cause = λ h. (let no : Memory ≡ WriteFault Report = h in cc no);
})

-- ---- behind the description

pub behind_met : (status : Status) → IsMetBehind status → IsMetByAudit status
behind_met (BadMux fault) is = tt
behind_met (OpenFault n) is = tt
behind_met other is = is

asked_behind : (path : List ℕ) (old new : Option (List (List ℕ))) (status : Status) → IsMetBehind status → Tries old new path → HasAskedFor path old new status
asked_behind path old new (BadMux fault) is tried = absurd is
asked_behind path old new (PastLimit Input) is tried = inr tried
asked_behind path old new (ReadFault Input) is tried = inr tried
asked_behind path old new Memory is tried = inr tried
asked_behind path old new other is tried = tried

pub results_asked : (path : List ℕ) (old new : Option (List (List ℕ))) (result : Result AirCount Status) → IfErr result IsMetBehind → Tries old new path → HasAskedFor path old new (met_by result)
results_asked path old new (Ok count) is tried = tried
results_asked path old new (Err status) is tried = asked_behind path old new status is tried

pub results_caused : (input_before input_mid input_now failed : ℕ) (opener : OpenerAsked) (result : Result AirCount Status) → IfErr result IsMetBehind → input_before ≤ input_mid → HasAuditCause input_mid input_now 0 failed result
    → TakesBack failed opener.read_old opener.read_new → IfErr result (HasMetCause input_before input_now opener)
results_caused input_before input_mid input_now failed opener (Ok count) is le cause back = tt
results_caused input_before input_mid input_now failed opener (Err (ReadFault Input)) is le cause back = Rose-from input_before input_mid input_now le cause
results_caused input_before input_mid input_now failed opener (Err (ReadFault Recording)) is le cause back = back.rose (some_fault failed cause)
results_caused input_before input_mid input_now failed opener (Err (OpenFault n)) is le cause back = absurd is
results_caused input_before input_mid input_now failed opener (Err other) is le cause back = tt
