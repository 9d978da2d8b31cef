-- What a run of `soak` promises, from what it met and how its report ended.
use Rattle.std.proofs.Common.{◌≡◌, ◌⊎◌, inl, inr, ℕ, ◌+◌, ◌-◌, ◌^◌, ◌<◌, true, List, [], ◌++◌, length, refl, sym, ap, ap₂, ◌∙◌, subst, arith, lit<, append-nil, append_assoc}
use Rattle.std.specs.Prelude.{Option, Some, Ok, codes}
use Rattle.std.specs.Io.KnownBytes.{Appends}
use Rattle.si_causes.specs.Causes.{Rose}
use Rattle.mux_model.specs.declared.mux.Mux.{Mux}
use Rattle.mux_config.specs.Descriptions.{Description}
use Rattle.input_lines.specs.Ahead.{Ahead, Came, Found}
use Rattle.journal_model.specs.declared.step.Entry.{Entry}
use Rattle.guide_screen.specs.declared.need.Heard.{Heard}
use Rattle.guide_screen.specs.declared.need.Heard.TheVariants.{Whole}
use Rattle.desk_core.specs.Journal.{accepted}
use Rattle.desk_core.specs.Publications.{guide_after}
use Rattle.journal_air.specs.Screen.{screen_of}
use Rattle.journal_air.specs.SentAir.{SentAir}
use Rattle.journal_air.proofs.Sent.{air_sent}
use Rattle.epg_report.specs.declared.status.Status.{Status}
use Rattle.epg_report.specs.declared.status.Status.TheVariants.{Done, Usage, BadScript, Disagrees, BadMux, BadFeed, BadStream, TooLong, OpenFault, ReadFault, WriteFault, Memory, NoView, NotAir, Short, TooMany, BadCheckpoint}
use Rattle.epg_report.specs.declared.status.Origin.TheVariants.{Input, Feed, Recording}
use Rattle.epg_report.specs.declared.status.Outlet.TheVariants.{Air, Report}
use Rattle.epg_report.specs.Told.{ReportTaken}
use Rattle.epg_live.specs.declared.reporting.LiveResult.{LiveResult}
use Rattle.epg_live.specs.Stops.{HasStatusCause, IsMet}
use Rattle.mux_config.specs.Texts.{described}
use Rattle.epg_live.specs.Runs.{Ran, read_faults}
use Rattle.epg_report.specs.Ends.{ReportEnds}
use Rattle.epg_live.specs.Ends.{HasMet, entries_of}
use Rattle.epg_live.proofs.DecidedFacts.{met_decided}
use Rattle.epg_live.proofs.LeavesFacts.{as_read, met_of, ran_shown}
use Rattle.si_workload.specs.Texts.{feed_text}
use Rattle.epg_soak.specs.WorkloadLoad.{soak_mux}
use Rattle.epg_soak.specs.Laws.{control_behind}
use Rattle.epg_soak.specs.Journals.{edits_in, item_lines}
use Rattle.epg_soak.specs.Callers.{IsSoakRun}
use Rattle.epg_soak.proofs.Closed.{description_read}
use Rattle.epg_soak.proofs.WorkloadScreenEvents.{runs_shown}
use Rattle.epg_soak.specs.Runs.{HasMetDone, HaveFeedTexts, soak_text}
use Rattle.epg_soak.proofs.Texts.{made_done}
use Rattle.epg_soak.proofs.WorkloadRunJournals.{done_counted, runs_whole}
use Rattle.epg_soak.specs.Files.{soak_files}
use Rattle.epg_soak.specs.Summary.{count_line, guide_lines, soak_summary, summary_text}
use Rattle.epg_soak.specs.Load.{IsMetByLoad, LoadMet, is_reported, load_call}
use Rattle.epg_soak.specs.SoakRun.{IsOfSoak, LeftSoak, SoakRun, run_summary}

-- ---- what a run of the load may meet

never_rose : Rose 0 0 → ⊥
never_rose (inl lt) = absurd (omega (arith, lt))
never_rose (inr last) = let some : 0 < 2 ^ 64 - 1 = lit< tt in absurd (omega (arith, last, some))

have_texts : (number : ℕ) → HaveFeedTexts number (codes "1") (codes "2") (soak_files number)
have_texts number = record { first_is = refl; second_is = refl }

-- what a run over the load's files met
abbrev MetOfLoad : ℕ → Option (List ℕ) → ReportTaken → LiveResult → Status → Type 0
MetOfLoad number left air run met = HasMet (load_call number left air) (entries_of run.desk) run.observed met

load_met : (number : ℕ) (air : ReportTaken) (run : LiveResult) (load : LoadMet number air run) → MetOfLoad number load.left air run run.met
load_met number air run load =
    let call = load_call number load.left air in
    subst (λ (n : ℕ). HasMet (record call { faults_now = read_faults 0 n }) (entries_of run.desk) run.observed run.met) load.of_load.now
    (subst (λ (n : ℕ). HasMet (record call { faults_before = read_faults 0 n; faults_now = read_faults 0 load.opener.read_new }) (entries_of run.desk) run.observed run.met) load.of_load.before
    (met_of (record call { faults_before = read_faults 0 load.opener.read_old; faults_now = read_faults 0 load.opener.read_new }) load.opener.tried_old load.opener.tried_new
    (entries_of run.desk) run.observed run.met (load.met.met soak_text refl (soak_files number) load.of_load.files)))

caused : (number : ℕ) (air : ReportTaken) (run : LiveResult) (load : LoadMet number air run) → HasStatusCause 0 0 0 0 air.faults_old air.faults_new run.met
caused number air run load =
    subst (λ (n : ℕ). HasStatusCause 0 0 0 n air.faults_old air.faults_new run.met) load.of_load.now
    (subst (λ (n : ℕ). HasStatusCause 0 0 n load.opener.read_new air.faults_old air.faults_new run.met) load.of_load.before load.met.cause)

-- what it met is Memory or Done, where it is neither a fault of an opening, of the input, nor of the air
decided : (number : ℕ) (left : Option (List ℕ)) (air : ReportTaken) (run : LiveResult) (met : Status) → MetOfLoad number left air run met
    → ((f : ℕ) → met ≡ OpenFault f → ⊥) → (met ≡ ReadFault Input → ⊥) → (met ≡ WriteFault Air → ⊥) → (met ≡ Memory) ⊎ (met ≡ Done)
decided number left air run met has no_open no_input no_air =
    elim (met_decided (load_call number left air) (entries_of run.desk) run.observed met has no_open no_input no_air never_rose) [
      | inl memory ↦ inl memory
      | inr ends ↦ inr (ends ∙ made_done number (codes "1") (codes "2") (soak_files number) (have_texts number))
    ]

pub met_by_load : (number : ℕ) (air : ReportTaken) (run : LiveResult) → LoadMet number air run → IsMetByLoad run.met
met_by_load number air run load = by run.met load.met.known (caused number air run load) (load_met number air run load)
  where
    by : (met : Status) → IsMet met → HasStatusCause 0 0 0 0 air.faults_old air.faults_new met → MetOfLoad number load.left air run met → IsMetByLoad met
    by Done known cause has = tt
    by (WriteFault Air) known cause has = tt
    by (OpenFault f) known cause has = tt
    by Memory known cause has = tt
    by Usage known cause has = known
    by (Disagrees n kept found) known cause has = known
    by (BadStream n) known cause has = known
    by (TooMany n) known cause has = known
    by (WriteFault Report) known cause has = known
    by (ReadFault Input) known cause has = never_rose cause
    by (ReadFault (Feed f)) known cause has = never_rose cause
    by (ReadFault Recording) known cause has = absurd known
    by (NotAir n rule) known cause has = absurd known
    by (Short n) known cause has = absurd known
    by (BadCheckpoint n) known cause has = absurd known
    by (BadScript n) known cause has = elim (decided number load.left air run (BadScript n) has (λ f e. cc e) (λ e. cc e) (λ e. cc e)) [ inl e ↦ cc e | inr e ↦ cc e ]
    by (BadMux fault) known cause has = elim (decided number load.left air run (BadMux fault) has (λ f e. cc e) (λ e. cc e) (λ e. cc e)) [ inl e ↦ cc e | inr e ↦ cc e ]
    by (BadFeed f n) known cause has = elim (decided number load.left air run (BadFeed f n) has (λ f e. cc e) (λ e. cc e) (λ e. cc e)) [ inl e ↦ cc e | inr e ↦ cc e ]
    by (NoView service) known cause has = elim (decided number load.left air run (NoView service) has (λ f e. cc e) (λ e. cc e) (λ e. cc e)) [ inl e ↦ cc e | inr e ↦ cc e ]
    by (TooLong origin) known cause has = elim (decided number load.left air run (TooLong origin) has (λ f e. cc e) (λ e. cc e) (λ e. cc e)) [ inl e ↦ cc e | inr e ↦ cc e ]

-- ---- the summary

abbrev counts_said : ℕ → ℕ → ℕ → List ℕ
counts_said edits done entries =
    count_line (codes "edits") edits ++ count_line (codes "done") done ++ count_line (codes "refused") (edits - done) ++ count_line (codes "entries") entries

counts_are : (edits done entries : ℕ) → edits ≡ 120 → done ≡ 120 → entries ≡ 132 → counts_said edits done entries ≡ counts_said 120 120 132
counts_are edits done entries e d n = rw (e, d, n) refl

same_mux : (mux m : Mux) (behind b : Ahead) (found : Found Description) → found ≡ Came (Ok m) b → found ≡ Came (Ok mux) behind → mux ≡ m
same_mux mux m behind b found is reads = cc

joined : (s a b c d : List ℕ) → s ++ (a ++ b ++ c ++ d) ≡ s ++ a ++ b ++ c ++ d
joined s a b c d =
    sym (append_assoc s (a ++ b ++ c) d)
    ∙ ap (λ (l : List ℕ). l ++ d) (sym (append_assoc s (a ++ b) c) ∙ ap (λ (l : List ℕ). l ++ c) (sym (append_assoc s a b)))

regrouped : (s a b c d v g : List ℕ) → s ++ (a ++ b ++ c ++ d) ++ (v ++ g) ≡ s ++ a ++ b ++ c ++ d ++ v ++ g
regrouped s a b c d v g = ap (λ (l : List ℕ). l ++ (v ++ g)) (joined s a b c d) ∙ sym (append_assoc (s ++ a ++ b ++ c ++ d) v g)

-- what is said of the journal of a whole run, and of a guide that shows it
summary_is : (number : ℕ) (journal : List Entry) (guide : Option Heard) (clock : ℕ) → (length journal ≡ 132) → length (edits_in journal) ≡ 120 → length (accepted journal) ≡ 120
    → IsSoakRun number journal → guide ≡ Some (Whole (screen_of soak_mux (guide_after soak_mux journal) clock)) → summary_text journal guide ≡ soak_summary number
summary_is number journal guide clock entries edits done whole shown =
    ap₂ (λ (a b : List ℕ). codes "services 8\n" ++ a ++ b) (counts_are (length (edits_in journal)) (length (accepted journal)) (length journal) edits done entries)
    (ap guide_lines shown ∙ ap (λ (n : ℕ). count_line (codes "events") n ++ codes "guide whole\n") (runs_shown number journal whole clock))
    ∙ regrouped (codes "services 8\n") (count_line (codes "edits") 120) (count_line (codes "done") 120) (count_line (codes "refused") 0)
    (count_line (codes "entries") 132) (count_line (codes "events") (item_lines (feed_text number 1) + item_lines (feed_text number 2)))
    (codes "guide whole\n")

-- ---- the run

module _ (number : ℕ) (air report : ReportTaken) (run : LiveResult) (status : Status) (load : LoadMet number air run) where
  abbrev journal : List Entry
  journal = entries_of run.desk

  abbrev RanOfLoad : Status → Type 0
  RanOfLoad met = Ran (load_call number load.left air) journal run.observed met

  -- a run that met Done, or a fault of the air, has run
  jobs_ran : (met : Status) → is_reported met ≡ true → IsMetByLoad met → MetOfLoad number load.left air run met → RanOfLoad met
  jobs_ran Done ended is (inl memory) = cc memory
  jobs_ran Done ended is (inr (inl none)) = absurd none.why
  jobs_ran Done ended is (inr (inr ran)) = ran
  jobs_ran (WriteFault Air) ended is (inl memory) = cc memory
  jobs_ran (WriteFault Air) ended is (inr (inl none)) = absurd none.why
  jobs_ran (WriteFault Air) ended is (inr (inr ran)) = ran
  jobs_ran (WriteFault Report) ended is has = absurd is
  jobs_ran other ended is has = cc ended

  whole_run : MetOfLoad number load.left air run Done → HasMetDone number journal
  whole_run has = record {
    call = load_call number load.left air;
    made = record { first = codes "1"; second = codes "2"; paths = refl; cycles = refl; text = refl; feeds = have_texts number };
    observed = run.observed;
    met = has;
  }

  sent_air : (met : Status) → RanOfLoad met → SentAir soak_mux journal air.old air.new
  sent_air met (mux, behind, whole, ran) =
      subst (λ (m : Mux). SentAir m journal air.old air.new) (same_mux mux soak_mux behind control_behind (described soak_text) description_read.1 whole)
      (air_sent mux journal air.old air.new ran.sent (as_read (load_call number load.left air) mux behind journal run.observed met whole ran) ran.journal_is.legal ran.air_is)

  summary_said : MetOfLoad number load.left air run Done → RanOfLoad Done → (sent : List ℕ) → air.old ≡ Some sent → summary_text journal run.observed.guide ≡ soak_summary number
  summary_said has (mux, behind, whole, ran) sent knows =
      let same = same_mux mux soak_mux behind control_behind (described soak_text) description_read.1 whole in
      let last = ran_shown (load_call number load.left air) mux behind journal run.observed Done whole ran refl sent knows in
      let shown = last.shown (omega arith) in
      let counted = done_counted number journal (whole_run has) in
      summary_is number journal run.observed.guide shown.0 counted.0 counted.2.edits counted.2.done (runs_whole number journal (whole_run has))
      (shown.2 ∙ ap (λ (m : Mux). Some (Whole (screen_of m (guide_after m journal) shown.0))) same)

  abbrev Ends : Status → Type 0
  Ends met = ReportEnds met (run_summary met journal run.observed) report status

  left_soak : (met : Status) → is_reported met ≡ true → IsMetByLoad met → MetOfLoad number load.left air run met → Ends met → LeftSoak number air report status
  left_soak met ended is has ends =
      let ran = jobs_ran met ended is has in
      record {
        journal = journal;
        observed = run.observed;
        met = met;
        left = load.left;
        ran = ran;
        whole = λ done. runs_whole number journal (whole_run (subst (MetOfLoad number load.left air run) done has));
        sent = sent_air met ran;
        reported = ends;
      }

  by : (met : Status) → is_reported met ≡ true → IsMetByLoad met → MetOfLoad number load.left air run met → HasStatusCause 0 0 0 0 air.faults_old air.faults_new met → Ends met → SoakRun number air report status
  by Done ended is has cause (inl (took, same)) = record {
    leaves = inr (left_soak Done ended is has (inl (took, same)));
    summary = λ done sent knows. subst (Appends report.old report.new) (append-nil (summary_text journal run.observed.guide) ∙ summary_said has (jobs_ran Done ended is has) sent knows) took;
    completes = λ no_air no_report. inl same;
    known = subst IsOfSoak (sym same) tt;
    air_cause = λ e. absurd (let bad : Done ≡ WriteFault Air = sym same ∙ e in cc bad);
    report_cause = λ e. absurd (let bad : Done ≡ WriteFault Report = sym same ∙ e in cc bad);
  }
  by Done ended is has cause (inr (rose, took, same)) = record {
    leaves = inr (left_soak Done ended is has (inr (rose, took, same)));
    summary = λ done sent knows. absurd (let bad : WriteFault Report ≡ Done = sym same ∙ done in cc bad);
    completes = λ no_air no_report. absurd (no_report rose);
    known = subst IsOfSoak (sym same) tt;
    air_cause = λ e. absurd (let bad : WriteFault Report ≡ WriteFault Air = sym same ∙ e in cc bad);
    report_cause = λ e. rose;
  }
  by (WriteFault Air) ended is has cause ends = with (status_is ends)
    where
      status_is : Ends (WriteFault Air) → status ≡ WriteFault Air
      status_is (inl (took, same)) = same
      status_is (inr (rose, took, same)) = same

      with : status ≡ WriteFault Air → SoakRun number air report status
      with same = record {
        leaves = inr (left_soak (WriteFault Air) ended is has ends);
        summary = λ done sent knows. absurd (let bad : WriteFault Air ≡ Done = sym same ∙ done in cc bad);
        completes = λ no_air no_report. absurd (no_air cause);
        known = subst IsOfSoak (sym same) tt;
        air_cause = λ e. cause;
        report_cause = λ e. absurd (let bad : WriteFault Air ≡ WriteFault Report = sym same ∙ e in cc bad);
      }
  by (WriteFault Report) ended is has cause ends = absurd is
  by other ended is has cause ends = cc ended

-- a run that memory was wanting for
pub soak_memory : (number : ℕ) (air report : ReportTaken) (status : Status) → status ≡ Memory → SoakRun number air report status
soak_memory number air report status e = record {
  leaves = inl e;
  summary = λ done sent knows. absurd (let bad : Memory ≡ Done = sym e ∙ done in cc bad);
  completes = λ no_air no_report. inr e;
  known = subst IsOfSoak (sym e) tt;
  air_cause = λ h. absurd (let bad : Memory ≡ WriteFault Air = sym e ∙ h in cc bad);
  report_cause = λ h. absurd (let bad : Memory ≡ WriteFault Report = sym e ∙ h in cc bad);
}

pub soak_run : (number : ℕ) (air report : ReportTaken) (run : LiveResult) (status : Status) → LoadMet number air run
    → (status ≡ Memory) ⊎ ((is_reported run.met ≡ true) × ReportEnds run.met (run_summary run.met (entries_of run.desk) run.observed) report status) → SoakRun number air report status
soak_run number air report run status load (inl memory) = soak_memory number air report status memory
soak_run number air report run status load (inr (ended, ends)) =
    by number air report run status load run.met ended (met_by_load number air run load) (load_met number air run load) (caused number air run load) ends
