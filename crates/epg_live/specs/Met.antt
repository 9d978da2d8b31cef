-- What a run of `live` met, before it is reported.
use Rattle.std.specs.Prelude.{◌≡◌, ℕ, List, Option, Some, None}
use Rattle.std.specs.Io.KnownBytes.{IsAtEnd}
use Rattle.headend_live.specs.declared.live.LivePlan.{LivePlan}
use Rattle.si_causes.specs.Causes.{Rose}
use Rattle.si_causes.specs.Opening.{Files}
use Rattle.epg_report.specs.declared.status.Status.{Status}
use Rattle.epg_report.specs.declared.status.Status.TheVariants.{Done, OpenFault}
use Rattle.epg_report.specs.Texts.{CanBeSaid}
use Rattle.epg_report.specs.Told.{OpenerAsked, ReportTaken, SourceGave, asked, gave, told}
use Rattle.epg_live.specs.declared.reporting.LiveResult.{LiveResult}
use Rattle.epg_live.specs.Stops.{HasStatusCause, IsMet}
use Rattle.epg_live.specs.Runs.{live_call, nothing_observed}
use Rattle.epg_live.specs.Ends.{HasAsked, HasMetAsking, entries_of}

-- What a run over the files of these paths met: what its opener was asked, what its input gave, what its air took, and what it leaves to be
-- reported.
pub record LiveMet (paths : List (List ℕ)) (plan : LivePlan) (opener : OpenerAsked) (input : SourceGave) (air : ReportTaken) (run : LiveResult) : Type 0 where
  -- the journal of all callers, its air and what was observed of it; or why no job started; and which paths were asked for until then
  pub met : (text : List ℕ) → input.old ≡ Some text → (files : Files) → opener.files ≡ Some files
      → HasMetAsking (live_call paths plan text files opener input air) opener.tried_old opener.tried_new
      (entries_of run.desk) run.observed run.met
  -- no other status comes, and its line can be written
  pub known : IsMet run.met
  pub said : CanBeSaid run.met
  -- the opener was asked for the paths, in order
  pub asked_for : HasAsked paths opener.tried_old opener.tried_new run.met
  -- with Done the input was read to its end
  pub end : run.met ≡ Done → IsAtEnd input.new
  -- each fault has its cause
  pub cause : HasStatusCause input.faults_old input.faults_new opener.read_old opener.read_new air.faults_old air.faults_new run.met
  pub open_cause : (feed : ℕ) → run.met ≡ OpenFault feed → Rose opener.faults_old opener.faults_new

-- no job started, for this reason
abbrev pub none_ran : Status → LiveResult
none_ran met = record { desk = None; observed = nothing_observed; met = met }

-- A run ended before its jobs with this status, whatever its air is, which is left as it was.
abbrev pub StopsBefore : List (List ℕ) → LivePlan → OpenerAsked → SourceGave → Status → Type 0
StopsBefore paths plan opener input status =
    (air : ReportTaken) → air.new ≡ air.old → LiveMet paths plan opener input air (none_ran status)

-- So a call ran with this opener, this input and this air: of each what tells what it has and its faults, and how it was before and behind.
abbrev pub LiveRanTo : {O S A : Type 0} → List (List ℕ) → LivePlan → (O → Option Files) → (O → Option (List (List ℕ))) → (O → ℕ) → (O → ℕ) → O → O
    → (S → Option (List ℕ)) → (S → ℕ) → S → S → (A → Option (List ℕ)) → (A → ℕ) → A → A → LiveResult → Type 0
LiveRanTo paths plan files tried open_faults file_faults opener opener_then left read_faults input input_then sent air_faults air air_then run =
    LiveMet paths plan (asked files tried open_faults file_faults opener opener_then) (gave left read_faults input input_then)
    (told sent air_faults air air_then) run
