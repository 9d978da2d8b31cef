-- Where nothing failed, the texts decide.
use Rattle.std.proofs.Common.{◌≡◌, ◌⊎◌, inl, inr, ℕ, ◌+◌, List, [], ◌∷◌, ◌++◌, map, refl, sym, ap, ◌∙◌, subst}
use Rattle.std.specs.Prelude.{Option, Some, None, Ok, Err, Result}
use Rattle.std.specs.List.{AllByRecursion}
use Rattle.headend_live.specs.declared.live.LivePlan.{LivePlan}
use Rattle.si_causes.specs.Causes.{Rose}
use Rattle.si_causes.specs.Opening.{Files, file_at}
use Rattle.si_causes.specs.declared.stop.ReadStop.TheVariants.{Failed, TooLong as Overlong}
use Rattle.mux_model.specs.declared.mux.Mux.{Mux}
use Rattle.mux_config.specs.declared.fault.MuxFault.{MuxFault}
use Rattle.mux_config.specs.Descriptions.{Description, fault_in}
use Rattle.input_lines.specs.declared.stop.EditStop.{EditStop}
use Rattle.input_lines.specs.declared.stop.EditStop.TheVariants as edit
use Rattle.input_lines.specs.Ahead.{Ahead, Came, Found, NoCommand, Stop, Stopped}
use Rattle.script_lines.specs.Edits.{edits_ahead}
use Rattle.journal_model.specs.declared.step.Entry.{Entry}
use Rattle.journal_model.specs.Steps.{command_of}
use Rattle.desk_hall.specs.Reads.{HasReadCause, ToldDid, commands_by, control_step, controls_ahead, edit_step}
use Rattle.headend_jobs.specs.Callers.{CommandsAre}
use Rattle.headend_jobs.specs.declared.live.LiveStop.{LiveStop}
use Rattle.headend_jobs.specs.declared.live.LiveStop.TheVariants as live
use Rattle.journal_air.specs.declared.send.SendStop.{SendStop}
use Rattle.journal_air.specs.declared.send.SendStop.TheVariants as send
use Rattle.headend_jobs.specs.Stops.{after, and_stop, control_stop, feeds_stop, or_feed, run_stop}
use Rattle.epg_live.specs.declared.reporting.Observed.{Observed}
use Rattle.epg_report.specs.declared.status.Status.{Status}
use Rattle.epg_report.specs.declared.status.Status.TheVariants.{Done, BadMux, TooLong, OpenFault, ReadFault, WriteFault, Memory, NoView}
use Rattle.epg_report.specs.declared.status.Origin.TheVariants.{Input, Feed, Recording}
use Rattle.epg_report.specs.declared.status.Outlet.TheVariants.{Air}
use Rattle.epg_report.specs.Told.{OpenerAsked, ReportTaken, SourceGave}
use Rattle.epg_live.specs.Stops.{HasStatusCause, HaveReadCauses, live_status}
use Rattle.mux_config.specs.Texts.{ahead_of, described}
use Rattle.epg_live.specs.Runs.{EndsBefore, FeedsDid, JobsRan, LiveCall, live_call}
use Rattle.epg_live.specs.Decided.{AreWhole, HasEdits, feed_text_stop, job_stop, jobs_status, text_status, description_status, views_status}
use Rattle.epg_report.specs.Ends.{ReportEnds}
use Rattle.epg_live.specs.Ends.{HasMet, run_text}
use Rattle.epg_live.specs.Leaves.{LeavesLive}
use Rattle.epg_live.proofs.LeavesFacts.{met_of}

-- ---- want of memory is taken, whoever met it

and_memory : (a : Option LiveStop) → and_stop a (Some live.Memory) ≡ Some live.Memory
and_memory None = refl
and_memory (Some live.Memory) = refl
and_memory (Some other) = refl

memory_feeds : (n : ℕ) (stops : List (Option EditStop)) → feeds_stop (Some live.Memory) n stops ≡ Some live.Memory
memory_feeds n [] = refl
memory_feeds n (stop ∷ stops) = memory_feeds (n + 1) stops

-- ---- else the first

after_first : (first : LiveStop) (b : Option LiveStop) → (after first b ≡ Some live.Memory) ⊎ (after first b ≡ Some first)
after_first first None = inr refl
after_first first (Some live.Memory) = inl refl
after_first first (Some other) = inr refl

-- ---- one job

-- a job stopped as what was ahead of it says, but for a failed read or want of memory
abbrev AsAhead : Option EditStop → Stop → Type 0
AsAhead stop ahead = (stop ≡ Some (edit.Read Failed)) ⊎ ((stop ≡ Some edit.Memory) ⊎ (stop ≡ job_stop ahead))

as_ahead : {T : Type 0} (did : List T → Type 0) (all : List T × Stop) (stop : Option EditStop) → ToldDid did all stop → AsAhead stop all.1
as_ahead did all None told = inr (inr (sym (ap job_stop told.0)))
as_ahead did all (Some (edit.NoCommand n)) told = inr (inr (sym (ap job_stop told.0)))
as_ahead did all (Some (edit.Read Overlong)) told = inr (inr (sym (ap job_stop told.0)))
as_ahead did all (Some (edit.Read Failed)) told = inl refl
as_ahead did all (Some edit.Memory) told = inr (inl refl)

-- ---- the feeds

module _ (files : Files) (journal : List Entry) (before now : ℕ) (none : Rose before now → ⊥) where
  abbrev path_stop : List ℕ → Option EditStop
  path_stop path = feed_text_stop (file_at path files)

  feeds_decided : (first : Option LiveStop) (f : ℕ) (paths : List (List ℕ)) (stops : List (Option EditStop)) → FeedsDid files journal f paths stops → HaveReadCauses before now stops
      → (feeds_stop first f stops ≡ Some live.Memory) ⊎ (feeds_stop first f stops ≡ feeds_stop first f (map path_stop paths))
  feeds_decided first f [] [] did causes = inr refl
  feeds_decided first f [] (stop ∷ stops) did causes = absurd did
  feeds_decided first f (path ∷ paths) [] did causes = absurd did
  feeds_decided first f (path ∷ paths) (stop ∷ stops) ((text, is, did), more) (cause, causes) = elim (as_ahead (λ values. CommandsAre journal (f + 1) (commands_by (f + 1) (edit_step f) values ++ [])) (edits_ahead (ahead_of text)) stop did) [
    | inl failed ↦ absurd (none (subst (HasReadCause before now) failed cause))
    | inr (inl memory) ↦ inl (
        ap (λ (o : Option EditStop). feeds_stop (or_feed first f o) (f + 1) stops) memory
        ∙ ap (λ (o : Option LiveStop). feeds_stop o (f + 1) stops) (and_memory first)
        ∙ memory_feeds (f + 1) stops
        )
    | inr (inr ahead) ↦
        let same : stop ≡ path_stop path = ahead ∙ sym (ap feed_text_stop is) in
        elim (feeds_decided (or_feed first f stop) (f + 1) paths stops more causes) [
          | inl memory ↦ inl memory
          | inr rest ↦ inr (rest ∙ ap (λ (o : Option EditStop). feeds_stop (or_feed first f o) (f + 1) (map path_stop paths)) same)
        ]
  ]

-- ---- the jobs

module _ (status : Status) (no_input : status ≡ ReadFault Input → ⊥) (no_air : status ≡ WriteFault Air → ⊥) where
  run_decided : (sent : Result (Unit {0}) SendStop) (control : Option EditStop) (ahead : Stop) (feeds fed : Option LiveStop) → status ≡ live_status (run_stop sent control feeds) → AsAhead control ahead
      → (feeds ≡ Some live.Memory) ⊎ (feeds ≡ fed) → (status ≡ Memory) ⊎ (status ≡ live_status (run_stop (Ok tt) (job_stop ahead) fed))
  run_decided (Err send.Memory) control ahead feeds fed is did found = inl is
  run_decided (Err send.Air) control ahead feeds fed is did found = elim (after_first live.Air (and_stop (control_stop control) feeds)) [
    | inl memory ↦ inl (is ∙ ap live_status memory)
    | inr air ↦ absurd (no_air (is ∙ ap live_status air))
  ]
  run_decided (Ok u) control ahead feeds fed is (inl failed) found =
      let with_control : status ≡ live_status (and_stop (Some (live.Control (edit.Read Failed))) feeds) = is ∙ ap (λ (o : Option EditStop). live_status (and_stop (control_stop o) feeds)) failed in
      elim (after_first (live.Control (edit.Read Failed)) feeds) [
        | inl memory ↦ inl (with_control ∙ ap live_status memory)
        | inr first ↦ absurd (no_input (with_control ∙ ap live_status first))
      ]
  run_decided (Ok u) control ahead feeds fed is (inr (inl memory)) found = inl (is ∙ ap (λ (o : Option EditStop). live_status (and_stop (control_stop o) feeds)) memory)
  run_decided (Ok u) control ahead feeds fed is (inr (inr same)) (inl memory) =
      inl (is ∙ ap (λ (o : Option LiveStop). live_status (and_stop (control_stop control) o)) memory ∙ ap live_status (and_memory (control_stop control)))
  run_decided (Ok u) control ahead feeds fed is (inr (inr same)) (inr found) =
      inr (is ∙ ap (λ (o : Option LiveStop). live_status (and_stop (control_stop control) o)) found ∙ ap (λ (o : Option EditStop). live_status (and_stop (control_stop o) fed)) same)

  jobs_decided : (call : LiveCall) (mux : Mux) (behind : Ahead) (journal : List Entry) (observed : Observed) → (Rose call.faults_before.feeds call.faults_now.feeds → ⊥)
      → JobsRan call mux behind journal observed status → (status ≡ Memory) ⊎ (status ≡ jobs_status behind call.paths call.files)
  jobs_decided call mux behind journal observed none ran =
      run_decided ran.sent ran.control_stop (controls_ahead behind).1 (feeds_stop None 1 ran.feed_stops) (feeds_stop None 1 (map (λ path. feed_text_stop (file_at path call.files)) call.paths)) ran.status_is
      (as_ahead (λ values. CommandsAre journal 0 (commands_by 0 control_step values ++ map command_of ran.final)) (controls_ahead behind) ran.control_stop ran.journal_is.control_did)
      (feeds_decided call.files journal call.faults_before.feeds call.faults_now.feeds none None 1 call.paths ran.feed_stops ran.journal_is.feeds_did ran.causes)

-- ---- the run

fault_status : (views : List ℕ) (paths : List (List ℕ)) (files : Files) (fault : MuxFault) (found : Found Description) → fault_in found ≡ Some fault → description_status found views paths files ≡ BadMux fault
fault_status views paths files fault (Came (Ok mux) behind) e = cc e
fault_status views paths files fault (Came (Err here) behind) e = ap BadMux (cc e)
fault_status views paths files fault (Stopped (NoCommand n)) e = ap BadMux (cc e)
fault_status views paths files fault (Stopped other) e = cc e

module _ (call : LiveCall) where
  -- what the texts of the call decide
  abbrev text_decides : Status
  text_decides = text_status call.text call.plan.views call.paths call.files

  before_decided : (status : Status) → EndsBefore call status → ((f : ℕ) → status ≡ OpenFault f → ⊥) → (status ≡ ReadFault Input → ⊥) → status ≡ text_decides
  before_decided (BadMux fault) why no_open no_input = sym (fault_status call.plan.views call.paths call.files fault (described call.text) why)
  before_decided (TooLong Input) why no_open no_input = sym (ap (λ (d : Found Description). description_status d call.plan.views call.paths call.files) why)
  before_decided (ReadFault Input) why no_open no_input = absurd (no_input refl)
  before_decided (OpenFault f) why no_open no_input = absurd (no_open f refl)
  before_decided (NoView service) why no_open no_input =
      sym (ap (λ (d : Found Description). description_status d call.plan.views call.paths call.files) why.2 ∙ ap (λ (o : Option ℕ). views_status o why.1 call.paths call.files) why.3)
  before_decided (TooLong (Feed f)) why no_open no_input = absurd why
  before_decided (TooLong Recording) why no_open no_input = absurd why
  before_decided (ReadFault (Feed f)) why no_open no_input = absurd why
  before_decided (ReadFault Recording) why no_open no_input = absurd why
  before_decided other why no_open no_input = absurd why

  -- a run that met neither a failed source nor a failed air met what the texts decide
  pub met_decided : (journal : List Entry) (observed : Observed) (met : Status) → HasMet call journal observed met → ((f : ℕ) → met ≡ OpenFault f → ⊥) → (met ≡ ReadFault Input → ⊥) → (met ≡ WriteFault Air → ⊥)
      → (Rose call.faults_before.feeds call.faults_now.feeds → ⊥) → (met ≡ Memory) ⊎ (met ≡ text_decides)
  met_decided journal observed met (inl memory) no_open no_input no_air no_feed = inl memory
  met_decided journal observed met (inr (inl none)) no_open no_input no_air no_feed = inr (before_decided met none.why no_open no_input)
  met_decided journal observed met (inr (inr (mux, behind, whole, ran))) no_open no_input no_air no_feed = elim (jobs_decided met no_input no_air call mux behind journal observed no_feed ran) [
    | inl memory ↦ inl memory
    | inr ends ↦ inr (ends ∙ sym (ap (λ (d : Found Description). description_status d call.plan.views call.paths call.files) whole ∙ ap (λ (o : Option ℕ). views_status o behind call.paths call.files) ran.served))
  ]

pub decided : (paths : List (List ℕ)) (plan : LivePlan) (text : List ℕ) (files : Files) (opener : OpenerAsked) (input : SourceGave) (air report : ReportTaken) (status : Status)
    → LeavesLive paths plan text files opener input air report status → HasStatusCause input.faults_old input.faults_new opener.read_old opener.read_new air.faults_old air.faults_new status → ((f : ℕ) → status ≡ OpenFault f → ⊥)
    → (Rose input.faults_old input.faults_new → ⊥) → (Rose opener.read_old opener.read_new → ⊥) → (Rose air.faults_old air.faults_new → ⊥) → (Rose report.faults_old report.faults_new → ⊥) → (status ≡ Memory) ⊎ (status ≡ text_status text plan.views paths files)
decided paths plan text files opener input air report status (inl memory) cause no_open no_read no_feed no_air no_report = inl memory
decided paths plan text files opener input air report status (inr run) cause no_open no_read no_feed no_air no_report = by run.reported
  where
    by : ReportEnds run.met (run_text run.journal run.observed) report status → (status ≡ Memory) ⊎ (status ≡ text_status text plan.views paths files)
    by (inr (rose, took, same)) = absurd (no_report rose)
    by (inl (took, same)) =
        let call = live_call paths plan text files opener input air in
        let caused : (s : Status) → run.met ≡ s → HasStatusCause input.faults_old input.faults_new opener.read_old opener.read_new air.faults_old air.faults_new s = (λ s e. subst (λ (t : Status). HasStatusCause input.faults_old input.faults_new opener.read_old opener.read_new air.faults_old air.faults_new t) (same ∙ e) cause) in
        let met = met_of call opener.tried_old opener.tried_new run.journal run.observed run.met run.ran in
        elim (met_decided call run.journal run.observed run.met met (λ f e. no_open f (same ∙ e)) (λ e. no_read (caused (ReadFault Input) e)) (λ e. no_air (caused (WriteFault Air) e)) no_feed) [
          | inl memory ↦ inl (same ∙ memory)
          | inr ends ↦ inr (same ∙ ends)
        ]

-- ---- Done

none_fed : (files : Files) (n : ℕ) (paths : List (List ℕ)) → AllByRecursion (HasEdits files) paths → feeds_stop None n (map (λ path. feed_text_stop (file_at path files)) paths) ≡ None
none_fed files n [] whole = refl
none_fed files n (path ∷ paths) (here, whole) =
    ap (λ (o : Option EditStop). feeds_stop (or_feed None n o) (n + 1) (map (λ path. feed_text_stop (file_at path files)) paths)) (ap feed_text_stop here.file ∙ ap job_stop here.end)
    ∙ none_fed files (n + 1) paths whole

pub whole_done : (text views : List ℕ) (paths : List (List ℕ)) (files : Files) → AreWhole text views paths files → text_status text views paths files ≡ Done
whole_done text views paths files are =
    ap (λ (d : Found Description). description_status d views paths files) are.whole
    ∙ ap (λ (o : Option ℕ). views_status o are.behind paths files) are.served
    ∙ ap (λ (s : Stop). live_status (run_stop (Ok tt) (job_stop s) (feeds_stop None 1 (map (λ path. feed_text_stop (file_at path files)) paths)))) are.control
    ∙ ap (λ (o : Option LiveStop). live_status (run_stop (Ok tt) None o)) (none_fed files 1 paths are.feeds)

pub whole : (text views : List ℕ) (paths : List (List ℕ)) (files : Files) (status : Status) → AreWhole text views paths files → (status ≡ Memory) ⊎ (status ≡ text_status text views paths files) → (status ≡ Done) ⊎ (status ≡ Memory)
whole text views paths files status are (inl memory) = inr memory
whole text views paths files status are (inr ends) = inl (ends ∙ whole_done text views paths files are)
