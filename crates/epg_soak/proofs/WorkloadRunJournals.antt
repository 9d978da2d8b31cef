-- The journal of a run over the made texts that met Done.
use Rattle.std.proofs.Common.{◌≡◌, ◌≤◌, ◌+◌, inl, inr, ℕ, List, [], ◌∷◌, ◌++◌, refl, sym, ap, ◌∙◌, subst, map, append-nil, lit≤, length, arith}
use Rattle.std.specs.Prelude.{Option, Some, None, Ok}
use Rattle.si_causes.specs.Opening.{Files, file_at}
use Rattle.mux_model.specs.declared.mux.Mux.{Mux}
use Rattle.mux_config.specs.Descriptions.{Description}
use Rattle.input_lines.specs.declared.stop.EditStop.{EditStop}
use Rattle.input_lines.specs.Ahead.{Ahead, Came, End, Found, Stop}
use Rattle.journal_model.specs.declared.control.Control.{Control}
use Rattle.journal_model.specs.declared.edit.Edit.{Edit}
use Rattle.journal_model.specs.declared.step.Entry.{Entry}
use Rattle.journal_model.specs.Steps.{Command, command_of}
use Rattle.script_lines.specs.Edits.{edits_of}
use Rattle.desk_core.specs.Journal.{Legal}
use Rattle.desk_hall.specs.Reads.{commands_by, control_step, controls_ahead, edit_step}
use Rattle.headend_jobs.specs.Callers.{CommandsAre}
use Rattle.headend_jobs.specs.Ticking.{tick_by, tick_of, ticks_of, turns_by}
use Rattle.headend_jobs.specs.Whole.{final_commands}
use Rattle.epg_report.specs.declared.status.Status.TheVariants.{Done}
use Rattle.epg_live.specs.declared.reporting.Observed.{Observed}
use Rattle.headend_jobs.specs.Stops.{feeds_stop}
use Rattle.mux_config.specs.Texts.{described}
use Rattle.epg_live.specs.Runs.{CallerDid, FeedsDid, JobsRan, LiveCall}
use Rattle.epg_live.specs.Ends.{HasMet}
use Rattle.si_workload.specs.Texts.{feed_text}
use Rattle.epg_soak.specs.WorkloadLoad.{soak_controls, soak_edits, soak_mux}
use Rattle.epg_soak.specs.Laws.{control_behind}
use Rattle.epg_soak.specs.Callers.{IsSoakRun, commands_of}
use Rattle.epg_soak.proofs.Callers.{runs_counted}
use Rattle.epg_soak.proofs.Closed.{control_read, description_read}
use Rattle.epg_soak.proofs.MadeEdits.{feeds_read}
use Rattle.epg_soak.specs.Runs.{DoneRunsAreCounted, DoneRunsAreWhole, HaveFeedTexts, IsMade}
use Rattle.epg_live.proofs.LeavesFacts.{last_made}
use Rattle.epg_soak.proofs.Stops.{all_swapped, done_stops, two_fed}

-- ---- what is read is one thing

same_text : (path made text : List ℕ) (files : Files) → file_at path files ≡ Some made → file_at path files ≡ Some text → text ≡ made
same_text path made text files is reads = cc

same_mux : (mux m : Mux) (behind b : Ahead) (found : Found Description) → found ≡ Came (Ok m) b → found ≡ Came (Ok mux) behind → (mux ≡ m) × (behind ≡ b)
same_mux mux m behind b found is reads = (cc, cc)

-- ---- each caller

control_did : (journal final : List Entry) (behind b : Ahead) (controls : List Control) (stop : Option EditStop) → behind ≡ b → controls_ahead b ≡ (controls, End) → stop ≡ None → map command_of final ≡ final_commands 0
    → CallerDid journal 0 control_step (controls_ahead behind) (map command_of final) stop → commands_of 0 journal ≡ commands_by 0 control_step controls ++ final_commands 0
control_did journal final behind b controls (Some stop) same reads none last did = cc none
control_did journal final behind b controls None same reads none last did =
    did.1 ∙ ap (λ (l : List Command). commands_by 0 control_step (controls_ahead behind).0 ++ l) last
    ∙ ap (λ (r : List Control × Stop). commands_by 0 control_step r.0 ++ final_commands 0) (ap controls_ahead same ∙ reads)

feed_did : (journal : List Entry) (who feed : ℕ) (path made : List ℕ) (files : Files) (edits : List Edit) (stop : Option EditStop) → file_at path files ≡ Some made → edits_of made ≡ (edits, End) → stop ≡ None
    → ((text : List ℕ) × (file_at path files ≡ Some text) × CallerDid journal who (edit_step feed) (edits_of text) [] stop) → commands_of who journal ≡ commands_by who (edit_step feed) edits
feed_did journal who feed path made files edits (Some stop) is reads none did = cc none
feed_did journal who feed path made files edits None is reads none (text, at, did) =
    did.1 ∙ append-nil (commands_by who (edit_step feed) (edits_of text).0)
    ∙ ap (λ (r : List Edit × Stop). commands_by who (edit_step feed) r.0) (ap edits_of (same_text path made text files is at) ∙ reads)

-- both feeds, of which none stopped
abbrev BothDid : ℕ → List Entry → Type 0
BothDid number journal =
    (commands_of 2 journal ≡ commands_by 2 (edit_step 1) (soak_edits number 1)) × (commands_of 3 journal ≡ commands_by 3 (edit_step 2) (soak_edits number 2))

feeds_did : (number : ℕ) (first second : List ℕ) (files : Files) (journal : List Entry) (stops : List (Option EditStop)) → HaveFeedTexts number first second files
    → feeds_stop None 1 stops ≡ None → FeedsDid files journal 1 (first ∷ second ∷ []) stops → BothDid number journal
feeds_did number first second files journal [] have none did = absurd did
feeds_did number first second files journal (a ∷ []) have none did = absurd did.1
feeds_did number first second files journal (a ∷ b ∷ c ∷ stops) have none did = absurd did.1.1
feeds_did number first second files journal (a ∷ b ∷ []) have none did =
    let both = two_fed a b none in (
      feed_did journal 2 1 first (feed_text number 1) files (soak_edits number 1) a have.first_is (feeds_read number 1 (lit≤ tt) (lit≤ tt)) both.0 did.0,
      feed_did journal 3 2 second (feed_text number 2) files (soak_edits number 2) b have.second_is (feeds_read number 2 (lit≤ tt) (lit≤ tt)) both.1 did.1.0,
    )

-- ---- the run

jobs_ran : (number : ℕ) (call : LiveCall) (journal : List Entry) (observed : Observed) (mux : Mux) (behind : Ahead) → IsMade number call → described call.text ≡ Came (Ok mux) behind
    → JobsRan call mux behind journal observed Done → IsSoakRun number journal
jobs_ran number call journal observed mux behind made whole ran =
    let is : described call.text ≡ Came (Ok soak_mux) control_behind = ap described made.text ∙ description_read.1 in
    let same = same_mux mux soak_mux behind control_behind (described call.text) is whole in
    let stops = done_stops ran.sent ran.control_stop (feeds_stop None 1 ran.feed_stops) (sym ran.status_is) in
    let last : map command_of ran.final ≡ tick_by 0 (tick_of mux journal call.plan.cycles) ++ final_commands 0 =
    last_made (tick_of mux journal call.plan.cycles) ran.player ran.sent ran.control_stop (feeds_stop None 1 ran.feed_stops) ran.final ran.failed stops.0 stops.1 stops.2 ran.last in
    let fed = feeds_did number made.first made.second call.files journal ran.feed_stops made.feeds stops.2
    (subst (λ (l : List (List ℕ)). FeedsDid call.files journal 1 l ran.feed_stops) made.paths ran.journal_is.feeds_did) in
    record {
      legal = subst (λ (m : Mux). Legal m journal) same.0 ran.journal_is.legal;
      control = control_did journal ran.final behind control_behind soak_controls ran.control_stop same.1 control_read stops.1
          (subst (λ (m : Mux). map command_of ran.final ≡ tick_by 0 (tick_of m journal call.plan.cycles) ++ final_commands 0) same.0 last) ran.journal_is.control_did;
      player = subst (λ (n : ℕ). CommandsAre journal 1 (turns_by 1 (ticks_of soak_mux journal n))) made.cycles
          (subst (λ (m : Mux). CommandsAre journal 1 (turns_by 1 (ticks_of m journal call.plan.cycles))) same.0
          (all_swapped mux ran.player ran.sent journal call.plan.cycles ran.failed stops.0 ran.journal_is.player_did));
      first = fed.0;
      second = fed.1;
      others = λ k le. ran.journal_is.others k (let z : length call.paths + 2 ≤ k = omega (arith, le, ap length made.paths) in z);
    }

pub runs_whole : DoneRunsAreWhole
runs_whole number journal done = by done.met
  where
    by : HasMet done.call journal done.observed Done → IsSoakRun number journal
    by (inl memory) = cc
    by (inr (inl none)) = absurd none.why
    by (inr (inr (mux, behind, whole, ran))) = jobs_ran number done.call journal done.observed mux behind done.made whole ran

pub done_counted : DoneRunsAreCounted
done_counted number journal done = runs_counted number journal (runs_whole number journal done)
