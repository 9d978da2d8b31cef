-- Why a script is not followed further, and the status for it.
use Rattle.std.specs.Prelude.{Ok, Err, Result}
use Rattle.si_causes.specs.declared.stop.ReadStop.TheVariants.{Failed, TooLong as Overlong}
use Rattle.input_lines.specs.declared.stop.EditStop.{EditStop}
use Rattle.input_lines.specs.declared.stop.EditStop.TheVariants as edits
use Rattle.epg_report.specs.declared.status.Status.{Status}
use Rattle.epg_report.specs.declared.status.Status.TheVariants as status
use Rattle.epg_report.specs.declared.status.Origin.TheVariants.{Input}
use Rattle.epg_report.specs.declared.status.Outlet.TheVariants as outlet
use Rattle.epg_follow.specs.declared.stop.FollowStop.{FollowStop}
use Rattle.epg_follow.specs.declared.stop.FollowStop.TheVariants.{NoCommand, Disagrees, Read, Air, Report, Memory}

-- the status that a run has met which followed a script so
abbrev pub met_by : Result (Unit {0}) FollowStop → Status
met_by (Ok u) = status.Done
met_by (Err (NoCommand n why)) = status.BadScript n
met_by (Err (Disagrees n kept found)) = status.Disagrees n kept found
met_by (Err (Read Overlong)) = status.TooLong Input
met_by (Err (Read Failed)) = status.ReadFault Input
met_by (Err Air) = status.WriteFault outlet.Air
met_by (Err Report) = status.WriteFault outlet.Report
met_by (Err Memory) = status.Memory

-- the stop of a call that reads; no line is refused there
abbrev pub read_stop : EditStop → FollowStop
read_stop (edits.NoCommand n) = Memory
read_stop (edits.Read stop) = Read stop
read_stop edits.Memory = Memory
