-- What a run met, where no job started and where jobs ran, and how its report ends.
use Rattle.std.proofs.Common.{◌≡◌, ◌⊎◌, inl, inr, ℕ, List, [], take, refl, ap, ◌∙◌, subst}
use Rattle.std.specs.Prelude.{Option, None, Some, Ok, Err}
use Rattle.std.specs.Io.KnownBytes.{Consumes}
use Rattle.headend_live.specs.declared.live.LivePlan.{LivePlan}
use Rattle.si_causes.specs.Causes.{Rose}
use Rattle.si_causes.specs.Opening.{Files}
use Rattle.si_causes.specs.Reading.{Reading, fresh}
use Rattle.si_causes.specs.declared.stop.ReadStop.TheVariants.{Failed, TooLong as Overlong}
use Rattle.si_causes.proofs.TextFacts.{fresh_text}
use Rattle.mux_model.specs.declared.mux.Mux.{Mux}
use Rattle.mux_config.specs.declared.stop.MuxStop.{MuxStop}
use Rattle.mux_config.specs.declared.stop.MuxStop.TheVariants as mux
use Rattle.mux_config.specs.Descriptions.{description_ahead}
use Rattle.mux_config.specs.Reads.{ReadMux}
use Rattle.mux_config.proofs.Reading.{fault_read, read_stopped}
use Rattle.input_lines.specs.declared.stop.EditStop.TheVariants as edit
use Rattle.input_lines.specs.Ahead.{Breaks, ahead}
use Rattle.input_lines.specs.Reads.{ahead_with}
use Rattle.headend_jobs.specs.declared.live.LiveStop.{LiveStop}
use Rattle.headend_jobs.specs.declared.live.LiveStop.TheVariants as live
use Rattle.epg_report.specs.declared.status.Status.{Status}
use Rattle.epg_report.specs.declared.status.Status.TheVariants.{Done, Usage, Disagrees, BadMux, BadStream, TooLong, OpenFault, ReadFault, WriteFault, Memory, NoView, NotAir, Short, TooMany, BadCheckpoint}
use Rattle.epg_report.specs.declared.status.Origin.TheVariants.{Input, Recording}
use Rattle.epg_report.specs.declared.status.Outlet.TheVariants.{Report}
use Rattle.epg_report.specs.Ends.{ReportEnds}
use Rattle.epg_report.specs.Texts.{CanBeSaid}
use Rattle.epg_report.specs.Told.{OpenerAsked, ReportTaken, SourceGave, asked, gave}
use Rattle.epg_live.specs.Opened.{HasTried, NotOpened}
use Rattle.epg_live.specs.Stops.{HasStatusCause, IsMet, IsOfLive, live_status, mux_status}
use Rattle.epg_live.specs.Runs.{EndsBefore, live_call}
use Rattle.epg_live.specs.Ends.{AskedFor, HasAsked, asked_before}
use Rattle.epg_live.specs.Met.{StopsBefore}
use Rattle.epg_live.specs.Views.{unserved}
use Rattle.epg_live.proofs.DescribedFacts.{bytes_left, has_read}
use Rattle.epg_live.proofs.OpenFacts.{tried_none}

-- ---- where no job started

-- no path was asked for
pub none_asked : (paths : List (List ℕ)) (tried : Option (List (List ℕ))) → HasAsked paths tried tried Memory
none_asked paths tried = (0, tried_none tried, tt)

module _ (paths : List (List ℕ)) (plan : LivePlan) (opener : OpenerAsked) (input : SourceGave) where
  -- the text has the reason
  abbrev Why : Status → Type 0
  Why status = (text : List ℕ) → input.old ≡ Some text → (files : Files) (air : ReportTaken) → EndsBefore (live_call paths plan text files opener input air) status

  abbrev Caused : Status → Type 0
  Caused status = (air : ReportTaken) → HasStatusCause input.faults_old input.faults_new opener.read_old opener.read_new air.faults_old air.faults_new status

  pub memory_before : HasAsked paths opener.tried_old opener.tried_new Memory → StopsBefore paths plan opener input Memory
  memory_before asked air same =
      record { met = λ text tells files known. inl refl; known = tt; said = tt; asked_for = asked; end = λ e. cc e; cause = tt; open_cause = λ f e. cc e }

  fault_before : (status : Status) → Why status → IsMet status → CanBeSaid status → HasTried opener.tried_old opener.tried_new (take (asked_before status) paths)
      → HasAsked paths opener.tried_old opener.tried_new status → (status ≡ Done → ⊥) → Caused status → ((f : ℕ) → status ≡ OpenFault f → Rose opener.faults_old opener.faults_new)
      → StopsBefore paths plan opener input status
  fault_before status why known said tried asked not_done cause open_cause air same = record {
    met = λ text tells files told. inr (inl (record { why = why text tells files air; journal_is = refl; observed_is = refl; sent = same }, tried));
    known = known;
    said = said;
    asked_for = asked;
    end = λ e. absurd (not_done e);
    cause = cause air;
    open_cause = open_cause;
  }

  -- of a description without a fault, a file was not opened
  pub open_before : (status : Status) → ((text : List ℕ) → input.old ≡ Some text → (files : Files) (air : ReportTaken) (f : ℕ) → EndsBefore (live_call paths plan text files opener input air) (OpenFault f))
      → NotOpened paths opener status → StopsBefore paths plan opener input status
  open_before (OpenFault f) why (least, most, tried, rose) =
      fault_before (OpenFault f) (λ text tells files air. why text tells files air f) tt tt tried (f, tried, (refl, least, most)) (λ e. cc e) (λ air. tt) (λ g e. rose)
  open_before Memory why (k, tried) = memory_before (k, tried, tt)
  open_before other why other_status = absurd other_status

module _ {O S : Type 0} (files : O → Option Files) (tried : O → Option (List (List ℕ))) (faults read_faults : O → ℕ) (o : O) (left : S → Option (List ℕ)) (faultsS : S → ℕ) (alike : S → S → Type 0)
    (paths : List (List ℕ)) (plan : LivePlan) (source : S) (new : Reading S) where
  abbrev pub StopsUnasked : Status → Type 0
  StopsUnasked status = StopsBefore paths plan (asked files tried faults read_faults o o) (gave left faultsS source new.source) status

  none : HasTried (tried o) (tried o) []
  none = tried_none (tried o)

  -- the description was not read
  pub mux_before : (stop : MuxStop) → ReadMux left faultsS alike (fresh source) new (Err stop) → StopsUnasked (mux_status stop)
  mux_before (mux.Fault fault) read =
      fault_before paths plan _ _ (BadMux fault) (λ text tells files air. fault_read left faultsS alike (fresh source) new fault text refl (fresh_text left source ∙ tells) read) tt tt none (0, none, refl)
      (λ e. cc e) (λ air. tt) (λ f e. cc e)
  mux_before (mux.Read Overlong) read =
      fault_before paths plan _ _ (TooLong Input) (λ text tells files air. (read_stopped left faultsS alike (fresh source) new Overlong read).gives refl text (fresh_text left source ∙ tells)) tt tt none (0, none, inl refl)
      (λ e. cc e) (λ air. tt) (λ f e. cc e)
  mux_before (mux.Read Failed) read =
      let fault = (read_stopped left faultsS alike (fresh source) new Failed read).takes refl in
      fault_before paths plan _ _ (ReadFault Input)
      (λ text tells files air.
      let b = bytes_left (left new.source) text fault.whole.more (subst (λ (o : Option (List ℕ)). Consumes o (left new.source) fault.whole.more) tells fault.whole.gave) in
      record { taken = fault.whole.more; rest = b.0; text_is = b.1; left_is = b.2; unended = ap (λ l. description_ahead (ahead_with (fresh source) l Breaks)) fault.whole.whole ∙ fault.reads })
      tt tt none (0, none, inl refl) (λ e. cc e) (λ air. fault.cause) (λ f e. cc e)
  mux_before mux.Memory read = memory_before paths plan _ _ (none_asked paths (tried o))

  -- it lacks a service that is viewed
  pub view_before : (service : ℕ) (mux : Mux) → ReadMux left faultsS alike (fresh source) new (Ok mux) → unserved mux plan.views ≡ Some service → StopsUnasked (NoView service)
  view_before service mux read lacks =
      fault_before paths plan _ _ (NoView service)
      (λ text tells files air. let r = has_read left faultsS alike new source text mux tells read in (mux, ahead new r.read.rest, r.read.reads, lacks))
      tt tt none (0, none, refl) (λ e. cc e) (λ air. tt) (λ f e. cc e)

  -- no memory for what its words say
  pub plan_before : StopsUnasked Memory
  plan_before = memory_before paths plan _ _ (none_asked paths (tried o))

-- ---- where jobs ran

-- what is known of the status of a run whose jobs started
pub record IsOfJobs (met : Status) : Type 0 where
  pub known : IsMet met
  pub said : CanBeSaid met
  pub all_asked : (n : ℕ) → AskedFor n n met
  pub not_open : (f : ℕ) → met ≡ OpenFault f → ⊥

pub of_jobs : (stop : Option LiveStop) → IsOfJobs (live_status stop)
of_jobs None = record { known = tt; said = tt; all_asked = λ n. refl; not_open = λ f e. cc e }
of_jobs (Some live.Air) = record { known = tt; said = tt; all_asked = λ n. refl; not_open = λ f e. cc e }
of_jobs (Some (live.Control (edit.NoCommand n))) = record { known = tt; said = tt; all_asked = λ n. refl; not_open = λ f e. cc e }
of_jobs (Some (live.Control (edit.Read Failed))) = record { known = tt; said = tt; all_asked = λ n. inr refl; not_open = λ f e. cc e }
of_jobs (Some (live.Control (edit.Read Overlong))) = record { known = tt; said = tt; all_asked = λ n. inr refl; not_open = λ f e. cc e }
of_jobs (Some (live.Control edit.Memory)) = record { known = tt; said = tt; all_asked = λ n. tt; not_open = λ f e. cc e }
of_jobs (Some (live.Feed f (edit.NoCommand n))) = record { known = tt; said = tt; all_asked = λ n. refl; not_open = λ f e. cc e }
of_jobs (Some (live.Feed f (edit.Read Failed))) = record { known = tt; said = tt; all_asked = λ n. refl; not_open = λ f e. cc e }
of_jobs (Some (live.Feed f (edit.Read Overlong))) = record { known = tt; said = tt; all_asked = λ n. refl; not_open = λ f e. cc e }
of_jobs (Some (live.Feed f edit.Memory)) = record { known = tt; said = tt; all_asked = λ n. tt; not_open = λ f e. cc e }
of_jobs (Some live.Memory) = record { known = tt; said = tt; all_asked = λ n. tt; not_open = λ f e. cc e }

-- ---- the report

met_of_live : (met : Status) → IsMet met → IsOfLive met
met_of_live Usage is = is
met_of_live (Disagrees m kept found) is = is
met_of_live (BadStream m) is = is
met_of_live (TooMany m) is = is
met_of_live (NotAir m rule) is = is
met_of_live (Short m) is = is
met_of_live (BadCheckpoint m) is = is
met_of_live (TooLong Recording) is = is
met_of_live (ReadFault Recording) is = is
met_of_live other is = tt

-- The status of a run is want of memory, or what it met; or Done was met, and the report failed.
abbrev pub EndsAs : Status → Status → ReportTaken → Type 0
EndsAs met status report =
    (status ≡ Memory)
    ⊎ (((status ≡ met) × IsOfLive met × (met ≡ WriteFault Report → ⊥)) ⊎ ((met ≡ Done) × (status ≡ WriteFault Report) × Rose report.faults_old report.faults_new))

pub ends_as : (met : Status) (text : List ℕ) (report : ReportTaken) (status : Status) → IsMet met → (status ≡ Memory) ⊎ ReportEnds met text report status → EndsAs met status report
ends_as met text report status is (inl memory) = inl memory
ends_as met text report status is (inr (inl (took, same))) = inr (inl (same, met_of_live met is, λ e. subst IsMet e is))
ends_as Done text report status is (inr (inr (rose, took, same))) = inr (inr (refl, same, rose))
ends_as other text report status is (inr (inr (rose, took, same))) = inr (inl (same, met_of_live other is, λ e. subst IsMet e is))
