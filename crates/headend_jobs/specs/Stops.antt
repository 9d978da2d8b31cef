-- Why a run stopped.
use Rattle.std.specs.Prelude.{ℕ, ◌+◌, Bool, true, ◌||◌, is_some, List, [], ◌∷◌, Option, Some, None, Ok, Err, Result}
use Rattle.journal_air.specs.declared.send.SendStop.{SendStop}
use Rattle.journal_air.specs.declared.send.SendStop.TheVariants.{Air, Memory}
use Rattle.input_lines.specs.declared.stop.EditStop.{EditStop}
use Rattle.input_lines.specs.declared.stop.EditStop.TheVariants as edit
use Rattle.headend_jobs.specs.declared.live.LiveStop.{LiveStop}
use Rattle.headend_jobs.specs.declared.live.LiveStop.TheVariants as live

-- a stop that is no want of memory, and another
abbrev pub after : LiveStop → Option LiveStop → Option LiveStop
after first None = Some first
after first (Some live.Memory) = Some live.Memory
after first (Some live.Air) = Some first
after first (Some (live.Control stop)) = Some first
after first (Some (live.Feed feed stop)) = Some first

-- one of two stops: want of memory in either, or else the first
abbrev pub and_stop : Option LiveStop → Option LiveStop → Option LiveStop
and_stop None second = second
and_stop (Some live.Memory) second = Some live.Memory
and_stop (Some live.Air) second = after live.Air second
and_stop (Some (live.Control stop)) second = after (live.Control stop) second
and_stop (Some (live.Feed feed stop)) second = after (live.Feed feed stop) second

-- the stop of a feed, of the control, and of what was sent; want of memory is one stop, whoever met it
abbrev pub feed_stop : ℕ → Option EditStop → Option LiveStop
feed_stop feed None = None
feed_stop feed (Some (edit.NoCommand n)) = Some (live.Feed feed (edit.NoCommand n))
feed_stop feed (Some (edit.Read stop)) = Some (live.Feed feed (edit.Read stop))
feed_stop feed (Some edit.Memory) = Some live.Memory

abbrev pub control_stop : Option EditStop → Option LiveStop
control_stop None = None
control_stop (Some (edit.NoCommand n)) = Some (live.Control (edit.NoCommand n))
control_stop (Some (edit.Read stop)) = Some (live.Control (edit.Read stop))
control_stop (Some edit.Memory) = Some live.Memory

abbrev pub sent_stop : Result (Unit {0}) SendStop → Option LiveStop
sent_stop (Ok u) = None
sent_stop (Err Air) = Some live.Air
sent_stop (Err Memory) = Some live.Memory

abbrev pub or_feed : Option LiveStop → ℕ → Option EditStop → Option LiveStop
or_feed first feed stop = and_stop first (feed_stop feed stop)

-- the first of these stops of feeds, of which the first has number n, after what there was before;
-- want of memory goes before all
abbrev pub feeds_stop : Option LiveStop → ℕ → List (Option EditStop) → Option LiveStop
feeds_stop first n [] = first
feeds_stop first n (stop ∷ stops) = feeds_stop (or_feed first n stop) (n + 1) stops

-- the stop of a run: want of memory, whoever met it; or else the first in the order air, control, feeds by number
abbrev pub run_stop : Result (Unit {0}) SendStop → Option EditStop → Option LiveStop → Option LiveStop
run_stop sent control feeds = and_stop (sent_stop sent) (and_stop (control_stop control) feeds)

-- the control makes no last turns where the player failed, or a job that reads stopped
abbrev pub halts : {E X Y : Type 0} → Result (Unit {0}) E → Option X → Option Y → Bool
halts (Err stop) control feed = true
halts (Ok u) control feed = is_some control || is_some feed
