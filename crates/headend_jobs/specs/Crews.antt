-- The callers of a run: before they begin, where they may end, and how they ended.
use Rattle.std.specs.Prelude.{◌≡◌, ◌+◌, ◌≤◌, ℕ, List, [], ◌∷◌, ◌++◌, Option, None, Some, OnOk, Result, length, vec_len, vec_capacity}
use mathlib.Core.List.{IsPrefix}
use Rattle.si_causes.specs.Reading.{Reading}
use Rattle.mux_model.specs.Sound.{IsSound}
use Rattle.mux_model.specs.declared.mux.Mux.{Mux}
use Rattle.air_model.specs.Air.{Aired}
use Rattle.cycle_player.specs.Sending.{AtEnd}
use Rattle.journal_model.specs.declared.step.Entry.{Entry}
use Rattle.turn_lock.specs.declared.known.Caller.{Caller}
use Rattle.turn_lock.specs.Knowledge.{TableId}
use Rattle.journal_air.specs.declared.send.SendStop.{SendStop}
use Rattle.desk_hall.specs.Turn.{View}
use Rattle.headend_jobs.specs.declared.crew.Crew.{Crew}
use Rattle.headend_jobs.specs.declared.jobs.FeedJob.{FeedJob}
use Rattle.headend_jobs.specs.declared.live.Ended.{Ended}
use Rattle.headend_jobs.specs.declared.sender.Sender.{Sender}
use Rattle.headend_jobs.specs.declared.views.ViewJob.{ViewJob}
use Rattle.headend_jobs.specs.Jobs.{callers_of, lines_of, new_control, new_feeds, new_player, stops_of}
use Rattle.headend_jobs.specs.Live.{EndDid, and_sent}
use Rattle.headend_jobs.specs.Posting.{HasPostedAll, HaveServicesOf, KeepsBoard, posts_of}
use Rattle.headend_jobs.specs.Sends.{Wrote}
use Rattle.headend_jobs.specs.Stops.{feeds_stop, halts, run_stop}
use Rattle.headend_jobs.specs.Whole.{NoSwaps}

-- The callers of a run of these readers, before they begin.
pub record IsCrew {F S : Type 0} (mux : Mux) (cycles : ℕ) (readers : List (Reading F)) (reader : Reading S)
    (views : List ViewJob) (crew : Crew F S) : Type 0 where
  pub callers : crew.hall.callers ≡ length readers + 2
  pub player : crew.player ≡ new_player crew.hall.turns mux cycles
  pub control : crew.others.control ≡ new_control crew.hall.turns mux reader
  pub feeds : crew.others.feeds.items ≡ new_feeds crew.hall.turns mux 1 readers
  pub views_are : crew.others.views.items ≡ views
  pub none : crew.back.items ≡ []
  pub room : vec_len crew.back + length crew.others.feeds.items ≤ vec_capacity crew.back

-- what is known of a pass of one number after its turns
pub record Lone (turns : TableId) (who : ℕ) (w : View) : Type 0 where
  pub turns_are : w.turns ≡ turns
  pub low : w.own.low ≡ who
  pub span : w.own.span ≡ 1
  pub alone : w.finished ≡ []

-- A feed has run: it has its number and its pass, and has made no swap.
pub record IsBack {S : Type 0} (turns : TableId) (n : ℕ) (job : FeedJob S) : Type 0 where
  pub feed : job.feed ≡ n
  pub lone : Lone turns (n + 1) job.pass
  pub plain : NoSwaps job.pass.own.made

-- so have these feeds, of which the first has number n
abbrev pub AreBack : {S : Type 0} → TableId → ℕ → List (FeedJob S) → Type 0
AreBack turns n [] = Unit {0}
AreBack turns n (job ∷ jobs) = IsBack turns n job × AreBack turns (n + 1) jobs

-- All jobs of a crew have ended.
pub record CanEnd {F S A : Type 0} (crew : Crew F S) (s : Sender A) : Type 0 where
  pub control : Lone crew.hall.turns 0 crew.others.control.pass
  pub plain : NoSwaps crew.others.control.pass.own.made
  pub player : Lone crew.hall.turns 1 crew.player.pass
  pub feeds : AreBack crew.hall.turns 1 crew.others.feeds.items
  pub callers : crew.hall.callers ≡ length crew.others.feeds.items + 2
  pub stands : crew.others.control.pass.on ≡ Some s.mux
  pub sound : IsSound s.mux
  pub served : HaveServicesOf s.mux s.board.posts
  pub ready : OnOk crew.player.end ((xs : List Aired) × AtEnd xs s.player)
  pub posted : OnOk crew.player.end (HasPostedAll s.mux crew.player.pass s.board)
  pub none : crew.back.items ≡ []
  pub room : vec_len crew.back + length crew.others.feeds.items ≤ vec_capacity crew.back

-- A pass took these callers in, and made nothing itself.
pub record Joined (v w : View) (callers : List (Caller Entry)) : Type 0 where
  pub turns : w.turns ≡ v.turns
  pub on : w.on ≡ v.on
  pub own : w.own ≡ v.own
  pub finished : w.finished ≡ v.finished ++ callers
  pub began : IsPrefix v.seen w.seen

-- How a crew ended, where `last` says what became of the control's last turns.
pub record EndedBy {F S A : Type 0} (written : A → Option (List ℕ)) (faults : A → ℕ) (is_same : A → A → Type 0)
    (crew : Crew F S) (s t : Sender A) (end : Ended F S) : Type 0 where
  pub did : EndDid s.mux crew.others.control.pass crew.player.pass (callers_of crew.others.feeds.items) s.player
      crew.player.end (halts crew.player.end crew.others.control.stop (feeds_stop None 1 (stops_of crew.others.feeds.items)))
      (written s.air) (written t.air)
      end.desk.entries end.tally end.sent
  pub mux : end.desk.mux ≡ s.mux
  pub last : Result (Unit {0}) SendStop
  pub sent_is : end.sent ≡ and_sent crew.player.end last
  pub air : Wrote faults is_same s.air t.air last
  pub same_on : (a : A) → is_same a s.air → is_same a t.air
  pub posted : OnOk end.sent (t.board.posts ≡ posts_of s.mux end.desk.entries)
  pub board : KeepsBoard s.board t.board
  pub feeds : end.inputs.feeds.items ≡ lines_of crew.others.feeds.items
  pub control_is : end.inputs.control ≡ crew.others.control.lines
  pub control_stop : end.control ≡ crew.others.control.stop
  pub feed_stop : end.feed ≡ feeds_stop None 1 (stops_of crew.others.feeds.items)
  pub stop_is : end.stop ≡ run_stop end.sent end.control end.feed
  pub views : end.views ≡ crew.others.views
