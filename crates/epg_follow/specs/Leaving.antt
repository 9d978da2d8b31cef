-- What a run leaves stands.
use Rattle.std.specs.Prelude.{◌≡◌, ◌⊎◌, ℕ, Bool, List, [], ◌++◌, Ok, Some, drop, take}
use Rattle.input_lines.specs.Ahead.{Ahead, Came}
use Rattle.air_model.specs.Air.{Aired}
use Rattle.epg_play.specs.Behind.{AirOn, CutAirOn}
use Rattle.epg_play.specs.Checkpointed.{HasRun}
use Rattle.epg_play.specs.Leaves.{IsOfPlay}
use Rattle.epg_play.specs.Over.{described_within}
use Rattle.epg_play.specs.Script.{long_limit}
use Rattle.epg_report.specs.Told.{ReportTaken, SourceGave}
use Rattle.epg_report.specs.declared.status.Origin.TheVariants.{Input}
use Rattle.epg_report.specs.declared.status.Status.{Status}
use Rattle.epg_report.specs.declared.status.Status.TheVariants.{Memory, ReadFault}
use Rattle.journal_model.specs.declared.step.Entry.{Entry}
use Rattle.mux_model.specs.declared.mux.Mux.{Mux}
use Rattle.script_notes.specs.ReportLaws.{IsCutOrEnd}
use Rattle.script_notes.specs.Pieces.{Piece, entries_in, pieces_text}
use Rattle.epg_follow.specs.Behind.{FollowsBehind}
use Rattle.epg_follow.specs.Course.{followed}
use Rattle.epg_follow.specs.Runs.{FollowRun}
use Rattle.epg_follow.specs.Stands.{Stands}

-- The report has the first k pieces, and a proper front of the next one or of what the run prints
-- at its end; and the air took the cycles of those k, or of the last of them a proper front. So a run
-- leaves what stands, whether it ended or a sink failed.
abbrev pub WhatIsLeftStands : Type 0
WhatIsLeftStands =
    (mux : Mux) (before : List Entry) (earlier : List Aired) (pieces : List Piece) (k : ℕ)
    (part old taken : List ℕ) (air : ReportTaken)
    → air.old ≡ Some old → air.new ≡ Some (old ++ taken)
    → AirOn mux before (entries_in (take k pieces)) earlier air
    ⊎ CutAirOn mux before (entries_in (take k pieces)) earlier air
    → IsCutOrEnd (drop k pieces) part
    → Stands mux before earlier pieces taken (pieces_text (take k pieces) ++ part)

-- So what a run of `play --follow` leaves stands, with each status. Memory may have been wanting
-- for the cycle of a last swap, before its first packet. That cycle then goes on with the air before
-- it, which is to be one of a head-end that ran.
abbrev pub FollowingLeavesWhatStands : Type 0
FollowingLeavesWhatStands =
    (keep : Bool) (mux : Mux) (before : List Entry) (earlier : List Aired)
    (air report : ReportTaken) (lines : Ahead) (status : Status) (sent taken written new : List ℕ)
    → air.old ≡ Some sent → air.new ≡ Some (sent ++ taken)
    → report.old ≡ Some written → report.new ≡ Some (written ++ new)
    → IsOfPlay status → (status ≡ Memory → HasRun mux before earlier)
    → FollowsBehind keep mux before earlier air report lines status
    → Stands mux before earlier (followed keep 0 mux before lines).pieces taken new

-- So it is of a whole run from nothing whose input describes a multiplex and did not fail.
abbrev pub FollowRunsLeaveWhatStands : Type 0
FollowRunsLeaveWhatStands =
    (keep : Bool) (input : SourceGave) (air report : ReportTaken) (status : Status)
    (sent taken written new : List ℕ)
    → air.old ≡ Some sent → air.new ≡ Some (sent ++ taken)
    → report.old ≡ Some written → report.new ≡ Some (written ++ new)
    → FollowRun keep input air report status → ¬ (status ≡ ReadFault Input)
    → (text : List ℕ) → input.old ≡ Some text
    → (mux : Mux) (lines : Ahead) → described_within long_limit text ≡ Came (Ok mux) lines
    → Stands mux [] [] (followed keep 0 mux [] lines).pieces taken new
