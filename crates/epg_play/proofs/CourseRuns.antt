-- Runs that are folded or go on, from what was played and how the report ended.
use Rattle.std.proofs.Common.{◌≡◌, ◌≤◌, ℕ, Bool, true, List, [], ◌++◌, length, refl, sym, ap, ◌∙◌, subst, inl, inr, ◌⊎◌, arith, lit<}
use Rattle.std.specs.Prelude.{Option, Some, None, Ok, Err, Result}
use Rattle.std.specs.Io.KnownBytes.{Appends, IsAtEnd}
use Rattle.si_causes.proofs.CauseFacts.{Appends-nothing}
use Rattle.si_causes.specs.Causes.{Rose}
use Rattle.si_causes.specs.Opening.{Files, Tries, file_at}
use Rattle.si_causes.specs.Text.{lines_left}
use Rattle.si_causes.specs.declared.stop.ReadStop.TheVariants.{Failed}
use Rattle.input_lines.specs.Ahead.{Ahead, Came, Found, NoCommand as NoLine, Stop as LineStop, Stopped, TooLong as PastEnd, Unread as Broken, ahead_in}
use Rattle.air_model.specs.Air.{Aired}
use Rattle.mux_model.specs.declared.mux.Mux.{Mux}
use Rattle.mux_model.proofs.FedFacts.{fed_named}
use Rattle.mux_config.specs.Descriptions.{Description, description_ahead}
use Rattle.mux_config.specs.Texts.{ahead_taken, described_taken}
use Rattle.mux_config.proofs.FineLines.{described_texts_are_kept, whole_descriptions_are_sound}
use Rattle.journal_model.specs.declared.step.Entry.{Entry}
use Rattle.journal_model.specs.Steps.{Command}
use Rattle.desk_core.specs.Desks.{DeskState}
use Rattle.cycle_player.specs.Airs.{IsAirAt}
use Rattle.epg_play.specs.NeverRefused.{HasShortMoment}
use Rattle.journal_air.specs.OnAir.{IsPlayerOf}
use Rattle.journal_air.specs.Air.{airings}
use Rattle.desk_checkpoint.specs.Steps.{folded, shift_of}
use Rattle.desk_core.specs.Journal.{publishes}
use Rattle.desk_checkpoint.specs.Checkpoints.{Checkpoint}
use Rattle.epg_report.specs.declared.status.Status.{Status}
use Rattle.epg_report.specs.declared.status.Status.TheVariants.{BadCheckpoint, BadMux, BadScript, Disagrees, Done, Memory, OpenFault, ReadFault, TooLong as PastLimit, WriteFault}
use Rattle.epg_report.specs.declared.status.Origin.TheVariants.{Input, Recording}
use Rattle.epg_report.specs.declared.status.Outlet.TheVariants.{Air, Report}
use Rattle.epg_report.specs.Asked.{AtPath, HasAskedFor}
use Rattle.epg_report.specs.Ends.{ReportEnds, or_report}
use Rattle.epg_report.specs.Texts.{fault_lines}
use Rattle.epg_report.specs.Told.{OpenerAsked, ReportTaken, Reported, SourceGave}
use Rattle.epg_report.proofs.Asking.{asked_memory}
use Rattle.epg_play.specs.declared.stop.PlayStop.{PlayStop}
use Rattle.epg_play.specs.declared.stop.PlayStop.TheVariants.{NoMux as Undescribed, Read, Air as OnAir, Memory as NoMemory}
use Rattle.epg_play.specs.Leaves.{Completes, IsOfPlay, met_by, script_status}
use Rattle.epg_play.specs.Played.{DeskDid, course}
use Rattle.epg_play.specs.Script.{Stop, NoMux, script_with, script_within}
use Rattle.epg_play.specs.declared.played.Course.{Course}
use Rattle.epg_play.specs.declared.played.Played.{Played}
use Rattle.epg_play.specs.Beginning.{BeginsAt, IsNew, IsNotBegun, IsOfResume}
use Rattle.epg_play.specs.Checkpointed.{HasRun, IsCheckpoint, checkpoint_limit, checkpoint_of}
use Rattle.epg_play.specs.Courses.{BeganAt, BegunFrom, CourseBehind, EndsAs, Finished, IsMetByResume, IsMetByScript, IsPlayedText, NotPlayed, PlayedNew, PlayedResumed}
use Rattle.epg_play.specs.Behind.{LeavesBehind}
use Rattle.epg_play.specs.CheckpointRuns.{Begins, FoldRunWithin, Nothing, NothingAsked, ResumeRunWithin, Resumes, Tells, course_on}
use Rattle.epg_play.specs.Over.{LeavesBy, LeavesOver, described_within}
use Rattle.epg_play.proofs.Bases.{begun_aired, begun_tallied, folded_base, new_base, nothing_folded}
use Rattle.epg_play.proofs.BehindFacts.{leaves_behind, reported_fault}
use Rattle.epg_play.proofs.CourseFacts.{ended_is}
use Rattle.epg_play.proofs.ReadBack.{begun_from, read_as, same_checkpoint}

-- ---- how a run ends

or_cases : (s : Status) → (s ≡ Done) ⊎ (or_report s ≡ s)
or_cases Done = inl refl
or_cases other = inr refl

-- What holds of the status that was met, of want of memory and of a report that was not written holds of the status of a run.
finished_as : (P : Status → Type 0) (fold : Bool) (played : Played) (report : ReportTaken) (status : Status) → Finished fold played report status
    → P Memory → (played.met ≡ Done → Rose report.faults_old report.faults_new → P (WriteFault Report)) → P played.met → P status
finished_as P fold played report status (inl memory) memory_is report_is met = subst P (sym memory) memory_is
finished_as P fold played report status (inr e) memory_is report_is met = by (or_cases played.met) e.reported
  where
    by : (played.met ≡ Done) ⊎ (or_report played.met ≡ played.met) → ReportEnds played.met e.text report status → P status
    by own (inl (took, is)) = subst P (sym is) met
    by (inl done) (inr (rose, front, is)) = subst P (sym (is ∙ ap or_report done)) (report_is done rose)
    by (inr own) (inr (rose, front, is)) = subst P (sym (is ∙ own)) met

module _ (fold : Bool) (played : Played) (report : ReportTaken) (status : Status) (finished : Finished fold played report status) where
  -- a status of its own was met
  met_is : (s : Status) → (Memory ≡ s → ⊥) → (WriteFault Report ≡ s → ⊥) → status ≡ s → played.met ≡ s
  met_is s no_memory no_report =
      finished_as (λ (t : Status). t ≡ s → played.met ≡ s) fold played report status finished (λ e. absurd (no_memory e)) (λ done rose e. absurd (no_report e)) (λ e. e)

  report_rose : (played.met ≡ WriteFault Report → ⊥) → status ≡ WriteFault Report → Rose report.faults_old report.faults_new
  report_rose not =
      finished_as (λ (t : Status). t ≡ WriteFault Report → Rose report.faults_old report.faults_new) fold played report status finished (λ e. cc e) (λ done rose e. rose) (λ e. absurd (not e))

-- ---- over a text

-- lines describe this multiplex, and these lines are behind its description
abbrev pub AreDescribed : Mux → Ahead → Type 0
AreDescribed mux lines = (from : Ahead) × (description_ahead from ≡ Came (Ok mux) lines)

module _ (Idle Left : Status → Type 0) (B B2 : Mux → Ahead → Status → Type 0) where
  by_same : (found : Found Description) (from : Ahead) (status : Status) → found ≡ description_ahead from
      → ((mux : Mux) (lines : Ahead) → AreDescribed mux lines → B mux lines status → B2 mux lines status) → (Idle status → Left status) → LeavesBy Idle B found status → LeavesBy Left B2 found status
  by_same (Came (Ok mux) lines) from status e behind idle h = behind mux lines (from, sym e) h
  by_same (Came (Err fault) lines) from status e behind idle h = (h.0, idle h.1)
  by_same (Stopped stop) from status e behind idle h = (h.0, idle h.1)

  over_same : (limit : ℕ) (text : List ℕ) (left : Option (List ℕ)) (status : Status) → ((mux : Mux) (lines : Ahead) → AreDescribed mux lines → B mux lines status → B2 mux lines status)
      → (Idle status → Left status) → LeavesOver limit Idle B text left status → LeavesOver limit Left B2 text left status
  over_same limit text left (ReadFault Input) behind idle h =
      record { taken = h.taken; rest = h.rest; text_is = h.text_is; left_is = h.left_is; leaves = by_same (described_taken h.taken) (ahead_taken h.taken) (ReadFault Input) refl behind idle h.leaves }
  over_same limit text left Memory behind idle h = tt
  over_same limit text left other behind idle h = by_same (described_within limit text) (ahead_in 1 (lines_left limit text)) other refl behind idle h

  -- a script that is played to its end was described, and a report that fails changes its status
  by_done : (found : Found Description) (from : Ahead) → found ≡ description_ahead from
      → ((mux : Mux) (lines : Ahead) → AreDescribed mux lines → B mux lines Done → B2 mux lines (WriteFault Report)) → LeavesBy Idle B found Done → LeavesBy Left B2 found (WriteFault Report)
  by_done (Came (Ok mux) lines) from e behind h = behind mux lines (from, sym e) h
  by_done (Came (Err fault) lines) from e behind h = (let no : Done ≡ BadMux fault = h.0 in cc no)
  by_done (Stopped Broken) from e behind h = (let no = h.0 in cc no)
  by_done (Stopped stop) from e behind h = (let no = h.0 in cc no)

  over_done : (limit : ℕ) (text : List ℕ) (left : Option (List ℕ)) → ((mux : Mux) (lines : Ahead) → AreDescribed mux lines → B mux lines Done → B2 mux lines (WriteFault Report))
      → LeavesOver limit Idle B text left Done → LeavesOver limit Left B2 text left (WriteFault Report)
  over_done limit text left behind h = by_done (described_within limit text) (ahead_in 1 (lines_left limit text)) refl behind h

-- where nothing was played, the report is the line of the fault
idle_reported : (fold : Bool) (course : Option Course) (met : Status) (report : ReportTaken) (text : List ℕ) → course ≡ None → IsPlayedText fold course met text
    → Reported report (text ++ fault_lines met) → Reported report (fault_lines met)
idle_reported fold course met report text none is took =
    subst (λ (t : List ℕ). Reported report (t ++ fault_lines met)) (subst (λ (c : Option Course). IsPlayedText fold c met text) none is) took

nothing_of : (air report : ReportTaken) (status : Status) → air.new ≡ air.old → Reported report (fault_lines status) → Nothing air report status
nothing_of air report status same took = (subst (λ (w : Option (List ℕ)). Appends air.old w []) (sym same) (Appends-nothing air.old), took)

-- Where nothing was played, the line of the fault is all that is reported: what is left then is `Left`.
module _ (limit : ℕ) (fold : Bool) (report : ReportTaken) (played : Played) (Idle Left : Status → Type 0) (B B2 : Mux → Ahead → Status → Type 0)
    (idle : (met : Status) → Idle met → (played.course ≡ None) × (Reported report (fault_lines met) → Left met))
    (behind : (mux : Mux) (lines : Ahead) (status : Status) → AreDescribed mux lines → B mux lines played.met → Finished fold played report status → B2 mux lines status) where
  -- the status is the one that was met
  same_over : (text : List ℕ) (left : Option (List ℕ)) → (e : EndsAs fold played.course played.met report played.met) → Reported report (e.text ++ fault_lines played.met)
      → LeavesOver limit Idle B text left played.met → LeavesOver limit Left B2 text left played.met
  same_over text left e took over =
      over_same Idle Left B B2 limit text left played.met (λ mux lines is b. behind mux lines played.met is b (inr e))
      (λ i. (idle played.met i).1 (idle_reported fold played.course played.met report e.text (idle played.met i).0 e.text_is took)) over

  pub ended_over : (text : List ℕ) (left : Option (List ℕ)) (status : Status) → LeavesOver limit Idle B text left played.met → Finished fold played report status → LeavesOver limit Left B2 text left status
  ended_over text left status over (inl memory) = subst (LeavesOver limit Left B2 text left) (sym memory) tt
  ended_over text left status over (inr e) = by (or_cases played.met) e.reported
    where
      ends : (s : Status) → ReportEnds played.met e.text report s → EndsAs fold played.course played.met report s
      ends s reported = record { text = e.text; text_is = e.text_is; reported = reported; handed = e.handed }

      by : (played.met ≡ Done) ⊎ (or_report played.met ≡ played.met) → ReportEnds played.met e.text report status → LeavesOver limit Left B2 text left status
      by own (inl (took, is)) =
          subst (LeavesOver limit Left B2 text left) (sym is)
          (same_over text left (ends played.met (inl (took, refl))) (inl took) over)
      by (inl done) (inr (rose, front, is)) =
          subst (LeavesOver limit Left B2 text left) (sym (is ∙ ap or_report done))
          (over_done Idle Left B B2 limit text left
          (λ mux lines d b. behind mux lines (WriteFault Report) d (subst (B mux lines) (sym done) b) (inr (ends (WriteFault Report) (inr (rose, front, sym (ap or_report done))))))
          (subst (LeavesOver limit Idle B text left) done over))
      by (inr own) (inr (rose, front, is)) =
          subst (LeavesOver limit Left B2 text left) (sym (is ∙ own))
          (same_over text left (ends played.met (inr (rose, front, sym own))) (inr (rose, front)) over)

-- ---- a head-end that did nothing yet

no_air : (rate : Option ℕ) → IsAirAt rate [] []
no_air None = record { airings_are = refl; cycles = tt; counted = λ pid. tt; fields = tt; nulls = tt }
no_air (Some rate) = record { airings_are = refl; cycles = tt; counted = λ pid. tt; fields = tt; nulls = tt }

no_clock : (rate : Option ℕ) → HasShortMoment rate []
no_clock None = tt
no_clock (Some rate) = lit< tt

-- the multiplex of a description is one that lines give
pub new_run : (mux : Mux) (lines : Ahead) → AreDescribed mux lines → HasRun mux [] []
new_run mux lines (from, is) =
    let kept = described_texts_are_kept from mux lines is in
    let sound = whole_descriptions_are_sound from mux lines is in
    record {
      read = record { sound = sound; network = kept.0; services = fed_named mux kept.1; edits = tt; steps = tt };
      folds = record { sound = sound.sound; named = fed_named mux kept.1; legal = tt; within = tt; typed = tt; few = omega arith };
      is_air = no_air mux.rate;
      clock = no_clock mux.rate;
    }

new_behind : (fold : Bool) (air report : ReportTaken) (played : Played) (mux : Mux) (lines : Ahead) (status : Status) → AreDescribed mux lines → CourseBehind fold (IsNew mux) air.old air.new played lines
    → Finished fold played report status → LeavesBehind fold mux [] [] air report lines status
new_behind fold air report played mux lines status is c finished =
    let run = new_run mux lines is in
    let none : airings c.start.desk.mux c.start.desk.entries ≡ [] = ap (λ (d : DeskState). airings d.mux d.entries) c.begins.desk in
    leaves_behind fold mux 0 [] [] [] (new_base mux run.folds.sound) run air report lines (IsNew mux) played c c.begins.desk c.begins.shift
    (begun_aired [] c.start air.old none c.begins.player (subst (λ (m : Mux). IsPlayerOf m c.start.player) (sym (ap (λ (d : DeskState). d.mux) c.begins.desk)) c.begins.player_of))
    (begun_tallied c.start none c.begins.tally) status finished

-- where neither the input nor a sink fails, the script decides
new_behind_decides : (fold : Bool) (mux : Mux) (lines : Ahead) (air report : ReportTaken) (status : Status) → LeavesBehind fold mux [] [] air report lines status → IsOfPlay status
    → (status ≡ ReadFault Input → ⊥) → (status ≡ WriteFault Air → ⊥) → (status ≡ WriteFault Report → ⊥) → Completes (script_with (Came (Ok mux) lines)).stop status
new_behind_decides fold mux lines air report Done leave known no_input no_air no_report = sym (ap script_status leave.1.ended)
new_behind_decides fold mux lines air report (ReadFault Input) leave known no_input no_air no_report = absurd (no_input refl)
new_behind_decides fold mux lines air report (ReadFault Recording) leave known no_input no_air no_report = absurd known
new_behind_decides fold mux lines air report (WriteFault Air) leave known no_input no_air no_report = absurd (no_air refl)
new_behind_decides fold mux lines air report (WriteFault Report) leave known no_input no_air no_report = absurd (no_report refl)
new_behind_decides fold mux lines air report (BadScript n) leave known no_input no_air no_report = leave.stopped
new_behind_decides fold mux lines air report (Disagrees n kept found) leave known no_input no_air no_report = leave.stopped
new_behind_decides fold mux lines air report (PastLimit Input) leave known no_input no_air no_report = leave.stopped
new_behind_decides fold mux lines air report (OpenFault n) leave known no_input no_air no_report = absurd known
new_behind_decides fold mux lines air report Memory leave known no_input no_air no_report = tt
new_behind_decides fold mux lines air report other leave known no_input no_air no_report = absurd leave

new_decides : (fold : Bool) (found : Found Description) (air report : ReportTaken) (status : Status) → LeavesBy (Nothing air report) (λ mux. LeavesBehind fold mux [] [] air report) found status → IsOfPlay status
    → (status ≡ ReadFault Input → ⊥) → (status ≡ WriteFault Air → ⊥) → (status ≡ WriteFault Report → ⊥) → Completes (script_with found).stop status
new_decides fold (Came (Ok mux) lines) air report status leave known no_input no_air no_report = new_behind_decides fold mux lines air report status leave known no_input no_air no_report
new_decides fold (Came (Err fault) lines) air report status leave known no_input no_air no_report = subst (Completes (NoMux fault)) (sym leave.0) refl
new_decides fold (Stopped Broken) air report status leave known no_input no_air no_report = absurd (no_input leave.0)
new_decides fold (Stopped stop) air report status leave known no_input no_air no_report = subst (Completes (script_with (Stopped stop)).stop) (sym leave.0) refl

pub new_completes : (limit : ℕ) (fold : Bool) (text : List ℕ) (left : Option (List ℕ)) (air report : ReportTaken) (status : Status) → LeavesOver limit (Nothing air report) (λ mux. LeavesBehind fold mux [] [] air report) text left status → IsOfPlay status
    → (status ≡ ReadFault Input → ⊥) → (status ≡ WriteFault Air → ⊥) → (status ≡ WriteFault Report → ⊥) → Completes (script_within limit text).stop status
new_completes limit fold text left air report (ReadFault Input) over known no_input no_air no_report = absurd (no_input refl)
new_completes limit fold text left air report Memory over known no_input no_air no_report = tt
new_completes limit fold text left air report other over known no_input no_air no_report = new_decides fold (described_within limit text) air report other over known no_input no_air no_report

script_no_report : (met : Status) → IsMetByScript met → met ≡ WriteFault Report → ⊥
script_no_report met is e = subst IsMetByScript e is

script_known : (met : Status) → IsMetByScript met → IsOfPlay met
script_known (WriteFault Report) is = absurd is
script_known other is = is

-- A run from a head-end that did nothing yet, whose report is the journal or, with `--fold`, the checkpoint.
pub record NewRun (limit : ℕ) (fold : Bool) (input : SourceGave) (air report : ReportTaken) (status : Status) : Type 0 where
  pub leaves : (text : List ℕ) → input.old ≡ Some text → LeavesOver limit (Nothing air report) (λ mux. LeavesBehind fold mux [] [] air report) text input.new status
  pub completes : (text : List ℕ) → input.old ≡ Some text → ¬ (Rose input.faults_old input.faults_new) → ¬ (Rose air.faults_old air.faults_new)
      → ¬ (Rose report.faults_old report.faults_new) → Completes (script_within limit text).stop status
  pub known : IsOfPlay status
  pub end : status ≡ Done → IsAtEnd input.new
  pub input_cause : status ≡ ReadFault Input → Rose input.faults_old input.faults_new
  pub air_cause : status ≡ WriteFault Air → Rose air.faults_old air.faults_new
  pub report_cause : status ≡ WriteFault Report → Rose report.faults_old report.faults_new

pub ran_new : (limit : ℕ) (fold : Bool) (input : SourceGave) (air report : ReportTaken) (played : Played) (status : Status) → ((text : List ℕ) → input.old ≡ Some text → PlayedNew fold limit text input.new air.old air.new played)
    → IsMetByScript played.met → (played.met ≡ Done → IsAtEnd input.new) → (played.met ≡ ReadFault Input → Rose input.faults_old input.faults_new) → (played.met ≡ WriteFault Air → Rose air.faults_old air.faults_new)
    → Finished fold played report status → NewRun limit fold input air report status
ran_new limit fold input air report played status over known end input_rose air_rose finished =
    let leaves = λ (text : List ℕ) (tells : input.old ≡ Some text).
    ended_over limit fold report played (λ met. NotPlayed air.old air.new played) (Nothing air report)
    (λ mux lines met. CourseBehind fold (IsNew mux) air.old air.new played lines) (λ mux. LeavesBehind fold mux [] [] air report)
    (λ met idle. (idle.no_course, nothing_of air report met idle.air))
    (λ mux lines s is c f. new_behind fold air report played mux lines s is c f) text input.new status (over text tells) finished in
    let is_known : IsOfPlay status = finished_as IsOfPlay fold played report status finished tt (λ done rose. tt) (script_known played.met known) in
    let input_cause : status ≡ ReadFault Input → Rose input.faults_old input.faults_new = λ e. input_rose (met_is fold played report status finished (ReadFault Input) (λ no. cc no) (λ no. cc no) e) in
    let air_cause : status ≡ WriteFault Air → Rose air.faults_old air.faults_new = λ e. air_rose (met_is fold played report status finished (WriteFault Air) (λ no. cc no) (λ no. cc no) e) in
    let report_cause : status ≡ WriteFault Report → Rose report.faults_old report.faults_new = report_rose fold played report status finished (script_no_report played.met known) in
    record {
      leaves = leaves;
      completes = λ text tells no_input no_air no_report.
          new_completes limit fold text input.new air report status (leaves text tells) is_known (λ e. no_input (input_cause e)) (λ e. no_air (air_cause e)) (λ e. no_report (report_cause e));
      known = is_known;
      end = λ e. end (met_is fold played report status finished Done (λ no. cc no) (λ no. cc no) e);
      input_cause = input_cause;
      air_cause = air_cause;
      report_cause = report_cause;
    }

-- where memory was wanting before any
pub new_memory : (limit : ℕ) (fold : Bool) (input : SourceGave) (air report : ReportTaken) (status : Status) → status ≡ Memory → NewRun limit fold input air report status
new_memory limit fold input air report status e = subst (NewRun limit fold input air report) (sym e) (record {
  leaves = λ text tells. tt;
  completes = λ text tells no_input no_air no_report. tt;
  known = tt;
  end = λ h. (let no : Memory ≡ Done = h in cc no);
  input_cause = λ h. (let no : Memory ≡ ReadFault Input = h in cc no);
  air_cause = λ h. (let no : Memory ≡ WriteFault Air = h in cc no);
  report_cause = λ h. (let no : Memory ≡ WriteFault Report = h in cc no);
})

-- ---- `play --fold`

pub folded_run : (limit : ℕ) (input : SourceGave) (air report : ReportTaken) (status : Status) → NewRun limit true input air report status → FoldRunWithin limit input air report status
folded_run limit input air report status run = record {
  leaves = run.leaves;
  completes = run.completes;
  known = run.known;
  end = run.end;
  input_cause = run.input_cause;
  air_cause = run.air_cause;
  report_cause = run.report_cause;
}

pub fold_memory : (limit : ℕ) (input : SourceGave) (air report : ReportTaken) (status : Status) → status ≡ Memory → FoldRunWithin limit input air report status
fold_memory limit input air report status e = folded_run limit input air report status (new_memory limit true input air report status e)

-- ---- from a checkpoint

own_begun : (met : Status) → IsNotBegun met → or_report met ≡ met
own_begun Done is = absurd is
own_begun other is = refl

module _ (path : List ℕ) (files : Files) (fold : Bool) (air report : ReportTaken) (mux : Mux) (lines : Ahead) where
  -- a file that holds the checkpoint of a journal is not refused
  refused : (stop : LineStop) → AtPath path files (λ bytes. checkpoint_of mux bytes ≡ Err stop) → (journal : List Entry) (earlier : List Aired) (bytes : List ℕ) → file_at path files ≡ Some bytes
      → length bytes ≤ checkpoint_limit → HasRun mux journal earlier → IsCheckpoint mux journal earlier bytes → ⊥
  refused stop at journal earlier bytes file le run is =
      let read = read_as mux journal earlier bytes run is le in
      let no = same_checkpoint path files mux at.bytes bytes (Err stop) read.0 at.file file at.is read.1 in
      cc no

  not_begun : (opener : OpenerAsked) → Tries opener.tried_old opener.tried_new path → (met : Status) → BeginsAt path files mux (Err met) → IsNotBegun met → Nothing air report met
      → Resumes path files fold opener air report mux lines met
  not_begun opener tried (OpenFault n) at is nothing = record { asked = tried; begins = (at, nothing); goes_on = λ journal earlier bytes file le run cp. tt }
  not_begun opener tried (BadCheckpoint n) at is nothing = record { asked = tried; begins = (at, nothing); goes_on = λ journal earlier bytes file le run cp. absurd (refused (NoLine n) at journal earlier bytes file le run cp) }
  not_begun opener tried (PastLimit Recording) at is nothing = record { asked = tried; begins = (at, nothing); goes_on = λ journal earlier bytes file le run cp. absurd (refused PastEnd at journal earlier bytes file le run cp) }
  not_begun opener tried (ReadFault Recording) at is nothing = record { asked = tried; begins = nothing; goes_on = λ journal earlier bytes file le run cp. tt }
  not_begun opener tried Memory at is nothing = record { asked = tried; begins = tt; goes_on = λ journal earlier bytes file le run cp. tt }
  not_begun opener tried other at is nothing = absurd is

  -- what was met tells why no more was played
  abbrev OnFile : Status → Type 0
  OnFile status = AtPath path files (λ bytes. (cp : Checkpoint) × (checkpoint_of mux bytes ≡ Ok cp) × Tells (course_on cp lines).1 status)

  tells_stop : (rest : List Command × Stop) (old new : DeskState) (stop : Result (Unit {0}) PlayStop) → DeskDid rest old new stop → Tells rest.1 (met_by stop)
  tells_stop rest old new (Err (Undescribed fault)) did = absurd did
  tells_stop rest old new (Err OnAir) did = tt
  tells_stop rest old new (Err NoMemory) did = tt
  tells_stop rest old new (Err (Read Failed)) did = did.0
  tells_stop rest old new other did = did.0

  begins_by : (stop : Result (Unit {0}) PlayStop) → OnFile (met_by stop) → Begins path files (Nothing air report) mux lines (met_by stop)
  begins_by (Err NoMemory) on = tt
  begins_by (Err (Read Failed)) on = on
  begins_by other on = on

  done_tells : OnFile Done → OnFile (WriteFault Report)
  done_tells on = record { bytes = on.bytes; file = on.file; is = (on.is.0, on.is.1, ended_is _ on.is.2) }

  on_file : (played : Played) (c : CourseBehind fold (BeganAt path files mux) air.old air.new played lines) → OnFile (met_by c.on.stop)
  on_file played c =
      let at = c.begins.begins in
      let starts = at.is.2 in
      let desk_did = subst (λ (d : DeskState). DeskDid (course c.start.shift d.mux d.entries None lines) d c.on.left.now c.on.stop) starts.desk c.did in
      let did = subst (λ (n : ℕ). DeskDid (course n at.is.0.desk.mux at.is.0.desk.entries None lines) at.is.0.desk c.on.left.now c.on.stop) starts.shift desk_did in
      record { bytes = at.bytes; file = at.file; is = (at.is.0, at.is.1, tells_stop (course_on at.is.0 lines) at.is.0.desk c.on.left.now c.on.stop did) }

  course_begins : (played : Played) (c : CourseBehind fold (BeganAt path files mux) air.old air.new played lines) (status : Status) → Finished fold played report status → Begins path files (Nothing air report) mux lines status
  course_begins played c status finished =
      finished_as (Begins path files (Nothing air report) mux lines) fold played report status finished tt
      (λ done rose. done_tells (subst OnFile (sym c.on.met ∙ done) (on_file played c)))
      (subst (Begins path files (Nothing air report) mux lines) (sym c.on.met) (begins_by c.on.stop (on_file played c)))

  course_goes_on : (played : Played) (c : CourseBehind fold (BeganAt path files mux) air.old air.new played lines) (status : Status) → Finished fold played report status
      → (journal : List Entry) (earlier : List Aired) (bytes : List ℕ) → file_at path files ≡ Some bytes → length bytes ≤ checkpoint_limit → HasRun mux journal earlier → IsCheckpoint mux journal earlier bytes
      → LeavesBehind fold mux journal earlier air report lines status
  course_goes_on played c status finished journal earlier bytes file le run is =
      let from = begun_from path files mux journal earlier bytes c.start c.begins file le run is in
      let sound = run.folds.sound in
      let legal = run.folds.legal in
      let none : airings c.start.desk.mux c.start.desk.entries ≡ [] = ap (λ (d : DeskState). airings d.mux d.entries) from.desk ∙ nothing_folded mux journal sound legal in
      let player_of = subst (λ (m : Mux). IsPlayerOf m c.start.player) (sym c.begins.is.mux_is) c.begins.is.player_of in
      leaves_behind fold mux (shift_of (publishes journal)) journal (folded mux journal) earlier (folded_base mux journal sound legal) run air report lines (BeganAt path files mux) played c from.desk from.shift
      (begun_aired earlier c.start air.old none from.player player_of) (begun_tallied c.start none c.begins.is.tally) status finished

  resumed_behind : (opener : OpenerAsked) → Tries opener.tried_old opener.tried_new path → (played : Played) (status : Status) → BegunFrom fold path files air.old air.new played mux lines played.met
      → Finished fold played report status → Resumes path files fold opener air report mux lines status
  resumed_behind opener tried played status (inr c) finished = record { asked = tried; begins = course_begins played c status finished; goes_on = course_goes_on played c status finished }
  resumed_behind opener tried played status (inl (at, known, idle)) (inl memory) =
      subst (Resumes path files fold opener air report mux lines) (sym memory) (record { asked = tried; begins = tt; goes_on = λ journal earlier bytes file le run cp. tt })
  resumed_behind opener tried played status (inl (at, known, idle)) (inr e) =
      let fault = reported_fault played.met e.text report status (own_begun played.met known) e.reported in
      subst (Resumes path files fold opener air report mux lines) (sym fault.0)
      (not_begun opener tried played.met at known (nothing_of air report played.met idle.air (idle_reported fold played.course played.met report e.text idle.no_course e.text_is fault.1)))

  -- where nothing fails and the file holds a checkpoint, the script on it decides
  on_checkpoint : (bytes : List ℕ) (cp : Checkpoint) (status : Status) → file_at path files ≡ Some bytes → checkpoint_of mux bytes ≡ Ok cp → OnFile status → Tells (course_on cp lines).1 status
  on_checkpoint bytes cp status file is on =
      let e = same_checkpoint path files mux on.bytes bytes (Ok on.is.0) cp on.file file on.is.1 is in
      let same : on.is.0 ≡ cp = cc e in
      subst (λ (c : Checkpoint). Tells (course_on c lines).1 status) same on.is.2

  no_checkpoint : (stop : LineStop) (bytes : List ℕ) (cp : Checkpoint) → file_at path files ≡ Some bytes → checkpoint_of mux bytes ≡ Ok cp → AtPath path files (λ bs. checkpoint_of mux bs ≡ Err stop) → ⊥
  no_checkpoint stop bytes cp file is at = (let no = same_checkpoint path files mux at.bytes bytes (Err stop) cp at.file file at.is is in cc no)

  decides : (bytes : List ℕ) (cp : Checkpoint) (status : Status) → file_at path files ≡ Some bytes → checkpoint_of mux bytes ≡ Ok cp → Begins path files (Nothing air report) mux lines status → IsOfResume status
      → (status ≡ ReadFault Input → ⊥) → ((n : ℕ) → status ≡ OpenFault n → ⊥) → (status ≡ ReadFault Recording → ⊥) → (status ≡ WriteFault Air → ⊥) → (status ≡ WriteFault Report → ⊥)
      → Completes (course_on cp lines).1 status
  decides bytes cp (OpenFault n) file is begins known no_input no_opening no_reading no_air no_report = absurd (no_opening n refl)
  decides bytes cp (ReadFault Recording) file is begins known no_input no_opening no_reading no_air no_report = absurd (no_reading refl)
  decides bytes cp (ReadFault Input) file is begins known no_input no_opening no_reading no_air no_report = absurd (no_input refl)
  decides bytes cp (PastLimit Recording) file is begins known no_input no_opening no_reading no_air no_report = absurd (no_checkpoint PastEnd bytes cp file is begins.0)
  decides bytes cp (BadCheckpoint n) file is begins known no_input no_opening no_reading no_air no_report = absurd (no_checkpoint (NoLine n) bytes cp file is begins.0)
  decides bytes cp (WriteFault Air) file is begins known no_input no_opening no_reading no_air no_report = absurd (no_air refl)
  decides bytes cp (WriteFault Report) file is begins known no_input no_opening no_reading no_air no_report = absurd (no_report refl)
  decides bytes cp Memory file is begins known no_input no_opening no_reading no_air no_report = tt
  decides bytes cp other file is begins known no_input no_opening no_reading no_air no_report = on_checkpoint bytes cp other file is begins

by_found : (path : List ℕ) (files : Files) (fold : Bool) (opener : OpenerAsked) (air report : ReportTaken) (found : Found Description) (mux : Mux) (lines : Ahead) (status : Status) → found ≡ Came (Ok mux) lines
    → LeavesBy (NothingAsked opener air report) (Resumes path files fold opener air report) found status → Begins path files (Nothing air report) mux lines status
by_found path files fold opener air report found mux lines status e leave =
    (let r = subst (λ (f : Found Description). LeavesBy (NothingAsked opener air report) (Resumes path files fold opener air report) f status) e leave in r.begins)

resume_completes : (limit : ℕ) (path : List ℕ) (files : Files) (fold : Bool) (opener : OpenerAsked) (air report : ReportTaken) (text : List ℕ) (left : Option (List ℕ)) (mux : Mux) (lines : Ahead) (bytes : List ℕ) (cp : Checkpoint) (status : Status)
    → LeavesOver limit (NothingAsked opener air report) (Resumes path files fold opener air report) text left status → described_within limit text ≡ Came (Ok mux) lines → file_at path files ≡ Some bytes → checkpoint_of mux bytes ≡ Ok cp → IsOfResume status
    → (status ≡ ReadFault Input → ⊥) → ((n : ℕ) → status ≡ OpenFault n → ⊥) → (status ≡ ReadFault Recording → ⊥) → (status ≡ WriteFault Air → ⊥) → (status ≡ WriteFault Report → ⊥)
    → Completes (course_on cp lines).1 status
resume_completes limit path files fold opener air report text left mux lines bytes cp (ReadFault Input) over is file reads known no_input no_opening no_reading no_air no_report = absurd (no_input refl)
resume_completes limit path files fold opener air report text left mux lines bytes cp Memory over is file reads known no_input no_opening no_reading no_air no_report = tt
resume_completes limit path files fold opener air report text left mux lines bytes cp other over is file reads known no_input no_opening no_reading no_air no_report =
    decides path files fold air report mux lines bytes cp other file reads (by_found path files fold opener air report (described_within limit text) mux lines other is over) known no_input no_opening no_reading no_air no_report

resume_no_report : (met : Status) → IsMetByResume met → met ≡ WriteFault Report → ⊥
resume_no_report met is e = subst IsMetByResume e is

resume_known : (met : Status) → IsMetByResume met → IsOfResume met
resume_known (WriteFault Report) is = absurd is
resume_known other is = is

pub resume_run : (limit : ℕ) (path : List ℕ) (fold : Bool) (opener : OpenerAsked) (input : SourceGave) (air report : ReportTaken) (played : Played) (status : Status)
    → ((text : List ℕ) → input.old ≡ Some text → (files : Files) → opener.files ≡ Some files
    → PlayedResumed fold limit path files text input.new opener air.old air.new played)
    → IsMetByResume played.met → HasAskedFor path opener.tried_old opener.tried_new played.met → (played.met ≡ Done → IsAtEnd input.new)
    → (played.met ≡ ReadFault Input → Rose input.faults_old input.faults_new) → ((n : ℕ) → played.met ≡ OpenFault n → Rose opener.faults_old opener.faults_new)
    → (played.met ≡ ReadFault Recording → Rose opener.read_old opener.read_new) → (played.met ≡ WriteFault Air → Rose air.faults_old air.faults_new)
    → Finished fold played report status → ResumeRunWithin limit path fold opener input air report status
resume_run limit path fold opener input air report played status over known asked end input_rose open_rose read_rose air_rose finished =
    let leaves = λ (text : List ℕ) (tells : input.old ≡ Some text) (files : Files) (has : opener.files ≡ Some files).
    ended_over limit fold report played (λ met. (opener.tried_new ≡ opener.tried_old) × NotPlayed air.old air.new played) (NothingAsked opener air report)
    (λ mux lines met. Tries opener.tried_old opener.tried_new path × BegunFrom fold path files air.old air.new played mux lines met)
    (Resumes path files fold opener air report)
    (λ met idle. (idle.1.no_course, λ took. (idle.0, nothing_of air report met idle.1.air took)))
    (λ mux lines s is b f. resumed_behind path files fold air report mux lines opener b.0 played s b.1 f) text input.new status (over text tells files has) finished in
    let is_known : IsOfResume status = finished_as IsOfResume fold played report status finished tt (λ done rose. tt) (resume_known played.met known) in
    let met = met_is fold played report status finished in
    let input_cause : status ≡ ReadFault Input → Rose input.faults_old input.faults_new = λ e. input_rose (met (ReadFault Input) (λ no. cc no) (λ no. cc no) e) in
    let open_cause : (n : ℕ) → status ≡ OpenFault n → Rose opener.faults_old opener.faults_new = λ n e. open_rose n (met (OpenFault n) (λ no. cc no) (λ no. cc no) e) in
    let read_cause : status ≡ ReadFault Recording → Rose opener.read_old opener.read_new = λ e. read_rose (met (ReadFault Recording) (λ no. cc no) (λ no. cc no) e) in
    let air_cause : status ≡ WriteFault Air → Rose air.faults_old air.faults_new = λ e. air_rose (met (WriteFault Air) (λ no. cc no) (λ no. cc no) e) in
    let report_cause : status ≡ WriteFault Report → Rose report.faults_old report.faults_new = report_rose fold played report status finished (resume_no_report played.met known) in
    record {
      leaves = leaves;
      completes = λ text tells files has free mux lines is bytes file cp reads.
          resume_completes limit path files fold opener air report text input.new mux lines bytes cp status (leaves text tells files has) is file reads is_known (λ e. free.no_input (input_cause e))
          (λ n e. free.no_opening (open_cause n e)) (λ e. free.no_reading (read_cause e)) (λ e. free.no_air (air_cause e)) (λ e. free.no_report (report_cause e));
      known = is_known;
      asked_for = finished_as (HasAskedFor path opener.tried_old opener.tried_new) fold played report status finished (asked_memory path opener.tried_old opener.tried_new played.met asked)
          (λ done rose. subst (HasAskedFor path opener.tried_old opener.tried_new) done asked) asked;
      end = λ e. end (met Done (λ no. cc no) (λ no. cc no) e);
      input_cause = input_cause;
      open_cause = open_cause;
      read_cause = read_cause;
      air_cause = air_cause;
      report_cause = report_cause;
    }

pub resume_memory : (limit : ℕ) (path : List ℕ) (fold : Bool) (opener : OpenerAsked) (input : SourceGave) (air report : ReportTaken) (status : Status) → status ≡ Memory → opener.tried_new ≡ opener.tried_old
    → ResumeRunWithin limit path fold opener input air report status
resume_memory limit path fold opener input air report status e same = subst (ResumeRunWithin limit path fold opener input air report) (sym e) (record {
  leaves = λ text tells files has. tt;
  completes = λ text tells files has free mux lines is bytes file cp reads. tt;
  known = tt;
  asked_for = inl same;
  end = λ h. (let no : Memory ≡ Done = h in cc no);
  input_cause = λ h. (let no : Memory ≡ ReadFault Input = h in cc no);
  open_cause = λ n h. (let no : Memory ≡ OpenFault n = h in cc no);
  read_cause = λ h. (let no : Memory ≡ ReadFault Recording = h in cc no);
  air_cause = λ h. (let no : Memory ≡ WriteFault Air = h in cc no);
  report_cause = λ h. (let no : Memory ≡ WriteFault Report = h in cc no);
})
