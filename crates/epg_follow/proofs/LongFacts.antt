-- What is left over the text of an input that is followed.
use Rattle.std.proofs.Common.{◌≡◌, ◌⊎◌, ℕ, List, refl, sym, ◌∙◌, subst, inl, inr}
use Rattle.std.specs.Prelude.{Option, Some, Ok, Err}
use Rattle.si_causes.specs.Reading.{Reading, fresh_to, text_left}
use Rattle.si_causes.proofs.TextFacts.{fresh_text_to}
use Rattle.si_causes.specs.declared.stop.ReadStop.TheVariants.{Failed, TooLong as Overlong}
use Rattle.input_lines.specs.Ahead.{Ahead, Came, Found}
use Rattle.mux_model.specs.declared.mux.Mux.{Mux}
use Rattle.mux_config.specs.Descriptions.{Description}
use Rattle.mux_config.specs.declared.stop.MuxStop.{MuxStop}
use Rattle.mux_config.specs.declared.stop.MuxStop.TheVariants as mux
use Rattle.mux_config.specs.Reads.{ReadMux}
use Rattle.epg_report.specs.declared.status.Status.{Status}
use Rattle.epg_report.specs.declared.status.Status.TheVariants.{Memory, ReadFault}
use Rattle.epg_report.specs.declared.status.Origin.TheVariants.{Input}
use Rattle.epg_report.specs.Ends.{or_report}
use Rattle.epg_report.specs.Texts.{fault_lines}
use Rattle.epg_report.specs.Told.{ReportTaken, Reported}
use Rattle.epg_play.specs.Leaves.{mux_stop, status_for}
use Rattle.epg_play.specs.Over.{LeavesBy, described_within}
use Rattle.epg_play.specs.Script.{long_limit}
use Rattle.epg_play.proofs.PlayedFacts.{undescribed_over}
use Rattle.epg_follow.specs.Finish.{EndsIdle}
use Rattle.epg_follow.specs.Runs.{LeavesLong}

-- ---- a text without a description

-- a reader that has read nothing of the text
pub long_text : {S : Type 0} (left : S → Option (List ℕ)) (source : S) (text : List ℕ) → left source ≡ Some text → text_left left (fresh_to long_limit source) ≡ Some text
long_text left source text told = fresh_text_to left long_limit source ∙ told

pub undescribed_long : {S : Type 0} (left : S → Option (List ℕ)) (faults : S → ℕ) (alike : S → S → Type 0) (old new : Reading S) (source : S) (text : List ℕ) (stop : MuxStop) (Idle : Status → Type 0) (B : Mux → Ahead → Status → Type 0)
    → old ≡ fresh_to long_limit source → left source ≡ Some text → ReadMux left faults alike old new (Err stop) → Idle (status_for (mux_stop stop)) → LeavesLong Idle B text (left new.source) (status_for (mux_stop stop))
undescribed_long left faults alike old new source text (mux.Fault fault) Idle B e told read idle = undescribed_over long_limit left faults alike old new source text (mux.Fault fault) Idle B e told read idle
undescribed_long left faults alike old new source text (mux.Read Overlong) Idle B e told read idle = undescribed_over long_limit left faults alike old new source text (mux.Read Overlong) Idle B e told read idle
undescribed_long left faults alike old new source text (mux.Read Failed) Idle B e told read idle = undescribed_over long_limit left faults alike old new source text (mux.Read Failed) Idle B e told read idle
undescribed_long left faults alike old new source text mux.Memory Idle B e told read idle = inl idle

-- ---- a run that did no step

-- the status was met, and the report has its line, or memory was wanting
pub idle_ends : (met s : Status) (report : ReportTaken) (P : Status → Type 0) → or_report met ≡ met → EndsIdle met report s → (Reported report (fault_lines met) → P met) → (Reported report (fault_lines Memory) → P Memory) → P s
idle_ends met s report P own (inl (is, took)) own_case memory = subst P (sym is) (memory took)
idle_ends met s report P own (inr (inl (took, is))) own_case memory = subst P (sym is) (own_case (inl took))
idle_ends met s report P own (inr (inr (rose, front, is))) own_case memory = subst P (sym (is ∙ own)) (own_case (inr (rose, front)))

pub own_status : (stop : MuxStop) → or_report (status_for (mux_stop stop)) ≡ status_for (mux_stop stop)
own_status (mux.Fault fault) = refl
own_status (mux.Read Overlong) = refl
own_status (mux.Read Failed) = refl
own_status mux.Memory = refl

-- ---- a text with a description

-- What a run leaves whose input did not fail: memory was wanting before any step, or it is what is left behind the description.
pub behind_long : (Idle : Status → Type 0) (Behind : Mux → Ahead → Status → Type 0) (text : List ℕ) (left : Option (List ℕ)) (mux : Mux) (lines : Ahead)
    → described_within long_limit text ≡ Came (Ok mux) lines → (status : Status) → ¬ (status ≡ ReadFault Input) → LeavesLong Idle Behind text left status
    → ((status ≡ Memory) × Idle Memory) ⊎ Behind mux lines status
behind_long Idle Behind text left mux lines is Memory read (inl idle) = inl (refl, idle)
behind_long Idle Behind text left mux lines is Memory read (inr (m, ls, other, behind)) =
    let same : Came (Ok m) ls ≡ Came (Ok mux) lines = sym other ∙ is in
    let own : m ≡ mux = cc same in
    let ahead : ls ≡ lines = cc same in
    inr (subst (λ (l : Ahead). Behind mux l Memory) ahead (subst (λ (x : Mux). Behind x ls Memory) own behind))
behind_long Idle Behind text left mux lines is (ReadFault Input) read leaves = absurd (read refl)
behind_long Idle Behind text left mux lines is status read leaves = inr (subst (λ (found : Found Description). LeavesBy Idle Behind found status) is leaves)
