-- What a run did.
use Rattle.std.specs.Prelude.{◌≡◌, ◌≤◌, ℕ, List, Option, None, OnOk}
use Rattle.si_causes.specs.Reading.{Reading}
use Rattle.mux_model.specs.declared.mux.Mux.{Mux}
use Rattle.cycle_player.specs.Sending.{Sending}
use Rattle.guide_board.specs.Posts.{Sight}
use Rattle.turn_lock.specs.Knowledge.{TableId}
use Rattle.journal_air.specs.OnAir.{HasAirCause}
use Rattle.headend_jobs.specs.declared.live.Ended.{Ended}
use Rattle.headend_jobs.specs.declared.views.ViewJob.{ViewJob}
use Rattle.headend_jobs.specs.Callers.{HaveTheirCommands}
use Rattle.headend_jobs.specs.Jobs.{Streams, lines_of, stops_of}
use Rattle.headend_jobs.specs.Live.{LiveDid, TallyDid}
use Rattle.headend_jobs.specs.Posting.{KeepsBoard, posts_of}
use Rattle.headend_jobs.specs.Stops.{feeds_stop, run_stop}
use Rattle.headend_jobs.specs.Views.{ViewsDid}

-- What an air took: what it had sent, and how many of its writes had failed, before and after.
pub record Taken : Type 0 where
  pub before : Option (List ℕ)
  pub now : Option (List ℕ)
  pub faults_before : ℕ
  pub faults_now : ℕ

abbrev pub taken : {A : Type 0} → (A → Option (List ℕ)) → (A → ℕ) → A → A → Taken
taken written faults old new = record {
  before = written old;
  now = written new;
  faults_before = faults old;
  faults_now = faults new;
}

-- A run of these readers: what it did, each caller with its commands, why the jobs that read stopped,
-- and their readers, in the order of the feeds. The stop is that of the run. Unless memory was
-- wanting, the tally is that of the cycles of the journal. A failed write has its cause.
pub record HallRan {F S : Type 0} (st : Streams F S) (mux : Mux) (cycles : ℕ) (readers : List (Reading F))
    (reader : Reading S) (air : Taken) (end : Ended F S) : Type 0 where
  pub mux_is : end.desk.mux ≡ mux
  pub turns : TableId
  pub playing : Sending
  pub did : LiveDid st turns mux cycles readers reader playing air.before air.now end.desk.entries end.sent
  pub commands : HaveTheirCommands st mux end.desk.entries cycles readers reader did.feeds did.control did.player.end did.final
  pub feeds_are : end.inputs.feeds.items ≡ lines_of did.feeds
  pub control_is : end.inputs.control ≡ did.control.lines
  pub control_stop : end.control ≡ did.control.stop
  pub feed_stop : end.feed ≡ feeds_stop None 1 (stops_of did.feeds)
  pub stop_is : end.stop ≡ run_stop end.sent end.control end.feed
  pub tally : TallyDid mux end.desk.entries end.tally end.sent
  pub cause : HasAirCause air.faults_before air.faults_now end.sent
  pub later : air.faults_before ≤ air.faults_now

-- What a run posted, and what its viewers did: the posts are those of the journal where all was sent.
pub record BoardRan {F S : Type 0} (mux : Mux) (jobs : List ViewJob) (old new : Sight) (end : Ended F S) : Type 0 where
  pub posted : OnOk end.sent (new.posts ≡ posts_of mux end.desk.entries)
  pub board : KeepsBoard old new
  pub views : ViewsDid jobs end.views.items
