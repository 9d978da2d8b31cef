-- The statuses of stops.
use Rattle.std.specs.Prelude.{ℕ, List, [], ◌∷◌, Option, Some, None}
use Rattle.si_causes.specs.declared.stop.ReadStop.TheVariants.{Failed, TooLong as Overlong}
use Rattle.mux_config.specs.declared.stop.MuxStop.{MuxStop}
use Rattle.mux_config.specs.declared.stop.MuxStop.TheVariants as mux
use Rattle.input_lines.specs.declared.stop.EditStop.{EditStop}
use Rattle.input_lines.specs.declared.stop.EditStop.TheVariants as edit
use Rattle.si_causes.specs.Causes.{Rose}
use Rattle.desk_hall.specs.Reads.{HasReadCause}
use Rattle.headend_jobs.specs.declared.live.LiveStop.{LiveStop}
use Rattle.headend_jobs.specs.declared.live.LiveStop.TheVariants as live
use Rattle.epg_report.specs.declared.status.Status.{Status}
use Rattle.epg_report.specs.declared.status.Status.TheVariants.{Done, Usage, BadScript, Disagrees, BadMux, BadFeed, BadStream, TooLong, ReadFault, WriteFault, Memory, NotAir, Short, TooMany, BadCheckpoint}
use Rattle.epg_report.specs.declared.status.Origin.TheVariants.{Input, Feed, Recording}
use Rattle.epg_report.specs.declared.status.Outlet.TheVariants.{Air, Report}

-- where the description of the multiplex was not read
abbrev pub mux_status : MuxStop → Status
mux_status (mux.Fault fault) = BadMux fault
mux_status (mux.Read Failed) = ReadFault Input
mux_status (mux.Read Overlong) = TooLong Input
mux_status mux.Memory = Memory

-- where the control stopped, and where a feed did
abbrev pub control_status : EditStop → Status
control_status (edit.NoCommand n) = BadScript n
control_status (edit.Read Failed) = ReadFault Input
control_status (edit.Read Overlong) = TooLong Input
control_status edit.Memory = Memory

abbrev pub feed_status : ℕ → EditStop → Status
feed_status f (edit.NoCommand n) = BadFeed f n
feed_status f (edit.Read Failed) = ReadFault (Feed f)
feed_status f (edit.Read Overlong) = TooLong (Feed f)
feed_status f edit.Memory = Memory

-- of a run whose jobs started: Done exactly where no job stopped
abbrev pub live_status : Option LiveStop → Status
live_status None = Done
live_status (Some live.Air) = WriteFault Air
live_status (Some (live.Control stop)) = control_status stop
live_status (Some (live.Feed f stop)) = feed_status f stop
live_status (Some live.Memory) = Memory

-- each of these stops that is a failed read has its cause
abbrev pub HaveReadCauses : ℕ → ℕ → List (Option EditStop) → Type 0
HaveReadCauses before now [] = Unit {0}
HaveReadCauses before now (stop ∷ stops) = HasReadCause before now stop × HaveReadCauses before now stops

-- a fault has its cause: the count of the input's faults, of the opener's read faults, or of the air's faults rose
abbrev pub HasStatusCause : ℕ → ℕ → ℕ → ℕ → ℕ → ℕ → Status → Type 0
HasStatusCause input_before input_now feeds_before feeds_now air_before air_now (ReadFault Input) = Rose input_before input_now
HasStatusCause input_before input_now feeds_before feeds_now air_before air_now (ReadFault (Feed f)) = Rose feeds_before feeds_now
HasStatusCause input_before input_now feeds_before feeds_now air_before air_now (ReadFault Recording) = Rose feeds_before feeds_now
HasStatusCause input_before input_now feeds_before feeds_now air_before air_now (WriteFault Air) = Rose air_before air_now
HasStatusCause input_before input_now feeds_before feeds_now air_before air_now status = Unit {0}

-- the statuses of `live`
abbrev pub IsOfLive : Status → Type 0
IsOfLive Usage = ⊥
IsOfLive (Disagrees n kept found) = ⊥
IsOfLive (BadStream n) = ⊥
IsOfLive (TooMany n) = ⊥
IsOfLive (NotAir n rule) = ⊥
IsOfLive (Short n) = ⊥
IsOfLive (BadCheckpoint n) = ⊥
IsOfLive (TooLong Recording) = ⊥
IsOfLive (ReadFault Recording) = ⊥
IsOfLive status = Unit {0}

-- those that a run may have met before it reports
abbrev pub IsMet : Status → Type 0
IsMet (WriteFault Report) = ⊥
IsMet status = IsOfLive status
