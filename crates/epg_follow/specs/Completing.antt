-- What decides the status of a run that follows a script, where nothing outside of it fails.
use Rattle.std.specs.Prelude.{◌≡◌, ◌≤◌, ℕ, Bool, List, [], length, Ok, Some}
use Rattle.si_causes.specs.Causes.{Rose}
use Rattle.si_causes.specs.Opening.{Files, file_at}
use Rattle.input_lines.specs.Ahead.{Ahead, Came}
use Rattle.air_model.specs.Air.{Aired}
use Rattle.mux_model.specs.declared.mux.Mux.{Mux}
use Rattle.journal_model.specs.declared.step.Entry.{Entry}
use Rattle.epg_play.specs.Checkpointed.{HasRun, IsCheckpoint, checkpoint_limit}
use Rattle.epg_play.specs.CheckpointRuns.{IsUnhindered}
use Rattle.epg_play.specs.Leaves.{Completes}
use Rattle.epg_play.specs.Over.{described_within}
use Rattle.epg_play.specs.Script.{long_limit}
use Rattle.epg_report.specs.Told.{OpenerAsked, ReportTaken, SourceGave}
use Rattle.epg_report.specs.declared.status.Status.{Status}
use Rattle.epg_follow.specs.Course.{followed}
use Rattle.epg_follow.specs.Runs.{FollowResumeRun, FollowRun}

-- Where neither the input nor a sink fails, the script after a description decides the status, but
-- for want of memory: Done comes exactly where it ended, and another status where a line of it is at
-- fault or its limit is passed.
abbrev pub FollowRunsComplete : Type 0
FollowRunsComplete =
    (keep : Bool) (input : SourceGave) (air report : ReportTaken) (status : Status)
    → FollowRun keep input air report status
    → ¬ (Rose input.faults_old input.faults_new) → ¬ (Rose air.faults_old air.faults_new)
    → ¬ (Rose report.faults_old report.faults_new)
    → (text : List ℕ) → input.old ≡ Some text
    → (mux : Mux) (lines : Ahead) → described_within long_limit text ≡ Came (Ok mux) lines
    → Completes (followed keep 0 mux [] lines).stop status

-- So it is of a run that goes on from a checkpoint, where opening and reading the file did not fail
-- either.
abbrev pub FollowResumeRunsComplete : Type 0
FollowResumeRunsComplete =
    (path : List ℕ) (keep : Bool) (opener : OpenerAsked) (input : SourceGave)
    (air report : ReportTaken) (status : Status)
    → FollowResumeRun path keep opener input air report status
    → IsUnhindered opener input air report
    → (text : List ℕ) → input.old ≡ Some text → (files : Files) → opener.files ≡ Some files
    → (mux : Mux) (lines : Ahead) → described_within long_limit text ≡ Came (Ok mux) lines
    → (journal : List Entry) (earlier : List Aired) (bytes : List ℕ)
    → file_at path files ≡ Some bytes → length bytes ≤ checkpoint_limit
    → HasRun mux journal earlier → IsCheckpoint mux journal earlier bytes
    → Completes (followed keep 0 mux journal lines).stop status
