-- How a run ends that followed a script.
use Rattle.std.specs.Prelude.{◌≡◌, ◌⊎◌, ℕ, Bool, true, false, List, [], ◌∷◌, ◌++◌, Err, Result}
use Rattle.epg_report.specs.declared.status.Status.{Status}
use Rattle.epg_report.specs.declared.status.Status.TheVariants as status
use Rattle.epg_report.specs.declared.status.Outlet.TheVariants as outlet
use Rattle.epg_report.specs.Ends.{ReportEnds}
use Rattle.epg_report.specs.Rates.{rate_line}
use Rattle.epg_report.specs.Texts.{fault_lines}
use Rattle.epg_report.specs.Told.{ReportTaken, Reported}
use Rattle.script_notes.specs.Pieces.{Piece, Noted, pieces_text}
use Rattle.epg_follow.specs.declared.follower.Follower.{Follower}
use Rattle.epg_follow.specs.declared.stop.FollowStop.{FollowStop}
use Rattle.epg_follow.specs.declared.stop.FollowStop.TheVariants.{NoCommand, Report, Memory}
use Rattle.epg_follow.specs.Stops.{met_by}

-- the comment on the line that ended the script
abbrev pub comment_of : Result (Unit {0}) FollowStop → List Piece
comment_of (Err (NoCommand n why)) = Noted n why ∷ []
comment_of result = []

-- what is said before the line of the fault
abbrev pub closing_text : Follower → Result (Unit {0}) FollowStop → List ℕ
closing_text follower followed = pieces_text (comment_of followed) ++ rate_line follower.desk.mux.rate follower.player.tally

-- memory is wanting
abbrev pub OutOfMemory : ReportTaken → Status → Type 0
OutOfMemory report end = (end ≡ status.Memory) × Reported report (fault_lines status.Memory)

-- the report ends, or memory is wanting
abbrev pub Closes : Follower → Result (Unit {0}) FollowStop → ReportTaken → Status → Type 0
Closes follower followed report end = OutOfMemory report end ⊎ ReportEnds (met_by followed) (closing_text follower followed) report end

-- the report failed, or memory was wanting, while the script was followed
abbrev pub is_unreported : Result (Unit {0}) FollowStop → Bool
is_unreported (Err Report) = true
is_unreported followed = false

abbrev pub is_given_up : Result (Unit {0}) FollowStop → Bool
is_given_up (Err Memory) = true
is_given_up followed = false

abbrev pub FinishedAs : (unreported given_up : Bool) → Follower → Result (Unit {0}) FollowStop → ReportTaken → Status → Type 0
FinishedAs true given_up follower followed report end = (end ≡ status.WriteFault outlet.Report) × (report.new ≡ report.old)
FinishedAs false true follower followed report end = OutOfMemory report end
FinishedAs false false follower followed report end = Closes follower followed report end

-- The report of a run that followed a script so, after its pieces, and its status.
abbrev pub FinishedBy : Follower → Result (Unit {0}) FollowStop → ReportTaken → Status → Type 0
FinishedBy follower followed report end = FinishedAs (is_unreported followed) (is_given_up followed) follower followed report end

-- no step was done, and this status was met
abbrev pub EndsIdle : Status → ReportTaken → Status → Type 0
EndsIdle met report end = OutOfMemory report end ⊎ ReportEnds met [] report end
