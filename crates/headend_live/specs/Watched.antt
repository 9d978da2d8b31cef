-- A run whose air is heard.
use Rattle.std.specs.Prelude.{◌≡◌, ◌≢◌, ◌↔◌, ◌≤◌, ◌+◌, ℕ, Bool, true, false, List, [], ◌∷◌, drop, Option, Some, None, IfSome, IsSome}
use Rattle.std.specs.Io.KnownBytes.{Appends}
use Rattle.std.specs.List.{AllByRecursion, AllZip}
use Rattle.mux_model.specs.declared.mux.Mux.{Mux}
use Rattle.mux_model.specs.Sound.{IsSound}
use Rattle.si_causes.specs.Reading.{Reading}
use Rattle.guide_receiver.specs.Heard.{Hearing, ReceiverStandsFor}
use Rattle.guide_receiver.specs.Guides.{guide_of}
use Rattle.guide_screen.specs.declared.need.Heard.{Heard}
use Rattle.air_monitor.specs.declared.done_line.DoneLine.{DoneLine}
use Rattle.air_monitor.specs.declared.monitor.MonitorLog.{MonitorLog}
use Rattle.air_monitor.specs.Heard.{HearsBy, lines_of_air}
use Rattle.ts_packets.specs.WholePackets.{whole_packets}
use Rattle.cycle_player.specs.Sending.{AtEnd}
use Rattle.cycle_player.specs.Tally.{no_cycles}
use Rattle.journal_air.specs.OnAir.{IsPlayerOf}
use Rattle.journal_air.specs.Tallied.{IsTallyOf}
use Rattle.headend_jobs.specs.declared.live.Ended.{Ended}
use Rattle.headend_jobs.specs.declared.live.LiveStop.{LiveStop}
use Rattle.headend_jobs.specs.declared.live.LiveStop.TheVariants as live
use Rattle.headend_jobs.specs.Jobs.{Streams}
use Rattle.headend_jobs.specs.Posting.{opening_of, posts_of}
use Rattle.headend_jobs.specs.Ran.{HallRan, Taken}
use Rattle.headend_jobs.specs.Stops.{and_stop}
use Rattle.headend_live.specs.declared.live.LivePlan.{LivePlan}
use Rattle.headend_live.specs.declared.live.LiveEnd.{LiveEnd}
use Rattle.headend_live.specs.declared.live.Observed.{Observed}
use Rattle.headend_live.specs.declared.live.Opened.{Opened}
use Rattle.headend_live.specs.Viewing.{AreViewed, IsNew, IsServiceOf}

-- the guide that the whole packets of an air give, from packet `join` on
abbrev pub guide_of_air : ℕ → List ℕ → Heard
guide_of_air join bytes = guide_of (drop join (whole_packets bytes))

-- The completions are those of the whole packets that the air took, from packet `join` on, and the receiver stands for these; where memory was
-- wanting, the completions are a front of them.
pub record HeardOfAir (join : ℕ) (before now : Option (List ℕ)) (wanting : Bool) (receiver : Hearing) (dones : List DoneLine) : Type 0 where
  pub taken : List ℕ
  pub gave : Appends before now taken
  pub heard : HearsBy wanting join (drop join (whole_packets taken)) receiver dones

-- and exactly these; the guide, where it is told, is the one that these packets give
pub record HeardWhole (join : ℕ) (before now : Option (List ℕ)) (receiver : Hearing) (dones : List DoneLine) (heard : Option Heard) : Type 0 where
  pub taken : List ℕ
  pub gave : Appends before now taken
  pub stands : ReceiverStandsFor (drop join (whole_packets taken)) receiver
  pub lines : dones ≡ lines_of_air join taken
  pub guide : IfSome heard (λ (h : Heard). h ≡ guide_of_air join taken)

-- the stop of a run, where want of memory for what was heard is one too
abbrev pub wanting_stop : Bool → Option LiveStop
wanting_stop true = Some live.Memory
wanting_stop false = None

abbrev pub watched_stop : Bool → Option LiveStop → Option LiveStop
watched_stop wanting stop = and_stop (wanting_stop wanting) stop

-- ---- a run before its jobs

-- Nothing was sent, and only publication 0 was posted; each service that viewers ask for has its job, with room for its answers.
pub record IsOpened (mux : Mux) (plan : LivePlan) (o : Opened) : Type 0 where
  pub mux_is : o.mux ≡ mux
  pub plan_is : o.plan ≡ plan
  pub sound : IsSound mux
  pub cycles : plan.cycles ≤ 1000
  pub services : AllByRecursion (IsServiceOf mux) plan.views
  pub player_of : IsPlayerOf mux o.player
  pub at_start : AtEnd [] o.player
  pub tally : o.player.tally ≡ no_cycles
  pub opening : o.board.posts ≡ opening_of mux ∷ []
  pub jobs : AllZip (IsNew o.board plan.cycles) plan.views o.jobs.items
  pub room : (o.room.lines ≡ []) × (o.room.viewers ≡ [])

-- ---- what is told of a run

-- Of a run that met this stop, and of which this was heard. The run's stop is want of memory, whoever met it, or else that one. The guide is
-- told exactly where there is none, and is that of what was heard; and else no view has a line.
pub record IsTold (log : MonitorLog) (stop : Option LiveStop) (o : Observed) : Type 0 where
  pub wanting : Bool
  pub deaf : log.wanting ≡ true → wanting ≡ true
  pub stop_is : o.stop ≡ watched_stop wanting stop
  pub told : IsSome o.guide ↔ (o.stop ≡ None)
  pub guide : (join : ℕ) (packets : List (List ℕ)) → HearsBy false join packets log.receiver log.dones
      → IfSome o.guide (λ (h : Heard). h ≡ guide_of packets)
  pub unviewed : o.stop ≢ None → o.views.lines ≡ []

-- nothing is, for this stop
pub record IsNotTold (stop : LiveStop) (o : Observed) : Type 0 where
  pub guide : o.guide ≡ None
  pub lines : o.views.lines ≡ []
  pub stop_is : o.stop ≡ Some stop

-- ---- a run, as its caller knows it

-- the end of the run of the jobs of which this end tells
abbrev pub ended_as : {F S : Type 0} → LiveEnd F S → Ended F S → Ended F S
ended_as end jobs = record jobs { desk = end.desk; tally = end.tally; inputs = record { feeds = end.feeds; control = end.control } }

-- What a run did. Each job read what was ahead of it, and made just its commands, each once, in order, whatever other jobs met; the journal is
-- legal, has no other callers, and ends with the control's last turns, which are made where no job stopped; the air has the cycles of that
-- journal, or a front of them; the readers are as the jobs left them, in the order of the feeds (`ran`). At a bit rate the player's commands
-- are its swaps, each after the tick that its clock tells (`ticks_of`). The stop is want of memory, whoever met it, or else the first in the
-- order air, control, feeds by number. Where the air tells its bytes, the completions are those of its whole packets from one on, or a front
-- of them where the stop is want of memory. The guide is told exactly where there is no stop (`told`), and then is the one that these packets
-- give (`whole`). Where there is none, each view has its lines, over the posts of that journal (`viewed`), and else none has any
-- (`unviewed`). The tally is that of the cycles of the journal, unless memory was wanting (`tally`).
pub record WatchedRan {F S : Type 0} (st : Streams F S) (mux : Mux) (plan : LivePlan) (feeds : List (Reading F)) (control : Reading S)
    (air : Taken) (end : LiveEnd F S) : Type 0 where
  pub jobs : Ended F S
  pub ran : HallRan st mux plan.cycles feeds control air (ended_as end jobs)
  pub wanting : Bool
  pub receiver : Hearing
  pub stop_is : end.stop ≡ watched_stop wanting jobs.stop
  pub heard : (bytes : List ℕ) → air.before ≡ Some bytes → HeardOfAir plan.join air.before air.now wanting receiver end.dones
  pub whole : (bytes : List ℕ) → air.before ≡ Some bytes → end.stop ≢ Some live.Memory
      → HeardWhole plan.join air.before air.now receiver end.dones end.heard
  pub told : IsSome end.heard ↔ (end.stop ≡ None)
  pub viewed : end.stop ≡ None → AreViewed (posts_of mux end.desk.entries) (plan.cycles + 1) plan.views end.viewers end.views
  pub unviewed : end.stop ≢ None → end.views ≡ []
  pub tally : end.stop ≢ Some live.Memory → IsTallyOf mux end.desk.entries end.tally
