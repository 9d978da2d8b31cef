-- How a run of `play` ends, by its record.
use Rattle.std.proofs.Common.{◌≡◌, ℕ, Bool, List, refl, subst}
use Rattle.std.specs.Io.KnownBytes.{IsAtEnd}
use Rattle.si_causes.specs.Causes.{Rose}
use Rattle.epg_report.specs.declared.status.Status.{Status}
use Rattle.epg_report.specs.declared.status.Status.TheVariants.{Done, OpenFault, ReadFault, WriteFault}
use Rattle.epg_report.specs.declared.status.Origin.TheVariants.{Input, Feed, Recording}
use Rattle.epg_report.specs.declared.status.Outlet.TheVariants.{Air, Report}
use Rattle.epg_report.specs.Told.{OpenerAsked, ReportTaken, SourceGave}
use Rattle.epg_live.specs.Stops.{HasStatusCause}
use Rattle.epg_play.specs.Leaves.{IsOfPlay, PlayRunWithin}
use Rattle.epg_play.specs.Beginning.{IsOfResume}
use Rattle.epg_play.specs.CheckpointRuns.{FoldRunWithin, ResumeRunWithin}
use Rattle.epg_follow.specs.Runs.{FollowResumeRun, FollowRun}
use Rattle.epg_cli.specs.Plays.{PlayEnds}

play_cause : (i j f g a b : ℕ) (s : Status) → IsOfPlay s → (s ≡ ReadFault Input → Rose i j) → (s ≡ WriteFault Air → Rose a b) → HasStatusCause i j f g a b s
play_cause i j f g a b (ReadFault Input) is read air = read refl
play_cause i j f g a b (ReadFault (Feed k)) is read air = absurd is
play_cause i j f g a b (ReadFault Recording) is read air = absurd is
play_cause i j f g a b (WriteFault Air) is read air = air refl
play_cause i j f g a b (WriteFault Report) is read air = tt
play_cause i j f g a b other is read air = tt

resume_cause : (i j f g a b : ℕ) (s : Status) → IsOfResume s → (s ≡ ReadFault Input → Rose i j) → (s ≡ ReadFault Recording → Rose f g) → (s ≡ WriteFault Air → Rose a b) → HasStatusCause i j f g a b s
resume_cause i j f g a b (ReadFault Input) is read file air = read refl
resume_cause i j f g a b (ReadFault (Feed k)) is read file air = absurd is
resume_cause i j f g a b (ReadFault Recording) is read file air = file refl
resume_cause i j f g a b (WriteFault Air) is read file air = air refl
resume_cause i j f g a b (WriteFault Report) is read file air = tt
resume_cause i j f g a b other is read file air = tt

module _ (opener : OpenerAsked) (input : SourceGave) (air report : ReportTaken) (status : Status) where
  -- from no checkpoint
  fresh_ends : IsOfPlay status → (status ≡ Done → IsAtEnd input.new) → (status ≡ ReadFault Input → Rose input.faults_old input.faults_new)
      → (status ≡ WriteFault Air → Rose air.faults_old air.faults_new) → (status ≡ WriteFault Report → Rose report.faults_old report.faults_new)
      → PlayEnds opener input air report status
  fresh_ends known end input_cause air_cause report_cause = record {
    no_usage = λ e. subst IsOfPlay e known;
    end = end;
    cause = play_cause input.faults_old input.faults_new opener.read_old opener.read_new air.faults_old air.faults_new status known input_cause air_cause;
    open_cause = λ n e. absurd (subst IsOfPlay e known);
    report_cause = report_cause;
  }

  pub play_ends : (limit : ℕ) → PlayRunWithin limit input air report status → PlayEnds opener input air report status
  play_ends limit run = fresh_ends run.known run.end run.input_cause run.air_cause run.report_cause

  pub fold_ends : (limit : ℕ) → FoldRunWithin limit input air report status → PlayEnds opener input air report status
  fold_ends limit run = fresh_ends run.known run.end run.input_cause run.air_cause run.report_cause

  pub follow_ends : (keep : Bool) → FollowRun keep input air report status → PlayEnds opener input air report status
  follow_ends keep run = fresh_ends run.known run.end run.input_cause run.air_cause run.report_cause

  -- from a checkpoint
  resumed_ends : IsOfResume status → (status ≡ Done → IsAtEnd input.new) → (status ≡ ReadFault Input → Rose input.faults_old input.faults_new)
      → ((n : ℕ) → status ≡ OpenFault n → Rose opener.faults_old opener.faults_new) → (status ≡ ReadFault Recording → Rose opener.read_old opener.read_new)
      → (status ≡ WriteFault Air → Rose air.faults_old air.faults_new) → (status ≡ WriteFault Report → Rose report.faults_old report.faults_new)
      → PlayEnds opener input air report status
  resumed_ends known end input_cause open_cause read_cause air_cause report_cause = record {
    no_usage = λ e. subst IsOfResume e known;
    end = end;
    cause = resume_cause input.faults_old input.faults_new opener.read_old opener.read_new air.faults_old air.faults_new status known input_cause read_cause air_cause;
    open_cause = open_cause;
    report_cause = report_cause;
  }

  pub resume_ends : (limit : ℕ) (path : List ℕ) (fold : Bool) → ResumeRunWithin limit path fold opener input air report status → PlayEnds opener input air report status
  resume_ends limit path fold run = resumed_ends run.known run.end run.input_cause run.open_cause run.read_cause run.air_cause run.report_cause

  pub follow_resume_ends : (path : List ℕ) (keep : Bool) → FollowResumeRun path keep opener input air report status → PlayEnds opener input air report status
  follow_resume_ends path keep run = resumed_ends run.known run.end run.input_cause run.open_cause run.read_cause run.air_cause run.report_cause
