-- How a run ends.
use Rattle.std.specs.Prelude.{◌≡◌, ◌⊎◌, ℕ, suc, ◌<◌, Bool, true, false, List, [], ◌++◌, map, take, Option, None, Ok, Err, Result}
use mathlib.Core.List.{IsPrefix}
use Rattle.si_time.specs.declared.moment.Moment.{Moment}
use Rattle.si_causes.specs.Reading.{Reading}
use Rattle.mux_model.specs.declared.mux.Mux.{Mux}
use Rattle.cycle_player.specs.Sending.{Sending}
use Rattle.cycle_player.specs.Tally.{Tallied}
use Rattle.journal_model.specs.declared.step.Step.TheVariants.{Publish}
use Rattle.journal_model.specs.declared.step.Outcome.TheVariants.{Published}
use Rattle.journal_model.specs.declared.step.Entry.{Entry}
use Rattle.journal_model.specs.Steps.{command_of}
use Rattle.turn_lock.specs.declared.known.Caller.{Caller}
use Rattle.turn_lock.specs.Knowledge.{TableId}
use Rattle.journal_air.specs.declared.send.SendStop.{SendStop}
use Rattle.journal_air.specs.declared.send.SendStop.TheVariants.{Air, Memory}
use Rattle.journal_air.specs.AirOf.{AirDid}
use Rattle.journal_air.specs.Tallied.{IsTallyOf}
use Rattle.desk_hall.specs.Turn.{View, Made, Idle}
use Rattle.headend_jobs.specs.declared.jobs.FeedJob.{FeedJob}
use Rattle.headend_jobs.specs.declared.jobs.ControlJob.{ControlJob}
use Rattle.headend_jobs.specs.declared.jobs.PlayerJob.{PlayerJob}
use Rattle.headend_jobs.specs.Jobs.{ControlDid, FeedsDid, Streams, callers_of, new_control, new_feeds, new_pass, stops_of}
use Rattle.headend_jobs.specs.Ticking.{Ticked, tick_by, tick_now, tick_of}
use Rattle.headend_jobs.specs.Playing.{SwapsPlayed, HasPlayedTo, HasPlayedFront, HasPlayedSome}
pub use Rattle.headend_jobs.specs.Stops.{after, and_stop, control_stop, feed_stop, feeds_stop, halts, or_feed, run_stop, sent_stop}
use Rattle.headend_jobs.specs.Whole.{JournalDid, final_commands}

-- The control made the tick that the player's clock tells, published, and then swapped twice, or
-- as far as this. These swaps have no ticks.
pub record Went (mux : Mux) (v w : View) (old new : Sending) (mid now : Option (List ℕ))
    (result : Result (Unit {0}) SendStop) : Type 0 where
  pub between : View
  pub ticked : Ticked (tick_now true old) v between
  pub number : ℕ
  pub published : View
  pub made : Made Publish (Published number) between published
  pub played : SwapsPlayed false mux 2 published w old new mid now result

-- Memory was wanting for the publish, or for the tick.
pub record Halted (v w : View) (old : Sending) (mid now : Option (List ℕ))
    (result : Result (Unit {0}) SendStop) : Type 0 where
  pub memory : result ≡ Err Memory
  pub between : View
  pub ticked : (between ≡ v) ⊎ Ticked (tick_now true old) v between
  pub idle : Idle between w
  pub same : now ≡ mid

abbrev pub FinalDid : Mux → View → View → Sending → Sending → Option (List ℕ) → Option (List ℕ) → Result (Unit {0}) SendStop → Type 0
FinalDid mux v w old new mid now result =
    Went mux v w old new mid now result ⊎ Halted v w old mid now result

-- Where no job stopped, the control made its last turns; else it made none.
abbrev pub LastDid : Bool → Mux → View → View → Sending → Sending → Option (List ℕ) → Option (List ℕ) → Result (Unit {0}) SendStop → Type 0
LastDid false mux v w old new mid now result = FinalDid mux v w old new mid now result
LastDid true mux v w old new mid now result =
    (result ≡ Ok tt) × (w ≡ v) × (now ≡ mid) × (new ≡ old)

-- what was sent: where the player had failed, nothing more
abbrev pub and_sent : Result (Unit {0}) SendStop → Result (Unit {0}) SendStop → Result (Unit {0}) SendStop
and_sent (Ok u) last = last
and_sent (Err stop) last = Err stop

-- ---- what the air has

-- what the air has of the cycles of these entries, where the player ended so
abbrev pub PlayedAs : Mux → List Entry → List Entry → Sending → Option (List ℕ) → Option (List ℕ) → Result (Unit {0}) SendStop → Type 0
PlayedAs mux seen entries player before now (Ok u) = HasPlayedTo mux seen entries player before now
PlayedAs mux seen entries player before now (Err Air) = HasPlayedFront mux seen entries player before now
PlayedAs mux seen entries player before now (Err Memory) = HasPlayedSome mux seen entries before now

-- The tally is that of the cycles of the journal, whether the last was sent whole or not. Nothing
-- is said of it where memory was wanting.
abbrev pub TallyDid : Mux → List Entry → Tallied → Result (Unit {0}) SendStop → Type 0
TallyDid mux journal tally (Ok u) = IsTallyOf mux journal tally
TallyDid mux journal tally (Err Air) = IsTallyOf mux journal tally
TallyDid mux journal tally (Err Memory) = Unit {0}

-- ---- the end

-- What the control made last: where no job stopped and all was sent, this tick, a publish, a swap
-- and a swap. It made these up to the swap whose cycle failed, or as far as memory was there. Where
-- a job stopped, it made nothing.
abbrev pub LastMade : Bool → Option Moment → ℕ → List Entry → Result (Unit {0}) SendStop → Type 0
LastMade true tick who final sent = final ≡ []
LastMade false tick who final (Ok u) =
    map command_of final ≡ tick_by who tick ++ final_commands who
LastMade false tick who final (Err Air) =
    (k : ℕ) × (k < 2)
    × (map command_of final ≡ tick_by who tick ++ take (suc (suc k)) (final_commands who))
LastMade false tick who final (Err Memory) =
    (k : ℕ) × (map command_of final ≡ take k (tick_by who tick ++ final_commands who))

-- How a run ends, of which all jobs have ended: its journal, its air, and the tally of its cycles.
pub record EndDid (mux : Mux) (control player : View) (feeds : List (Caller Entry)) (old : Sending) (end : Result (Unit {0}) SendStop) (stopped : Bool) (mid now : Option (List ℕ)) (journal : List Entry) (tally : Tallied)
    (sent : Result (Unit {0}) SendStop) : Type 0 where
  pub final : List Entry
  pub journal_did : JournalDid control.own player.own feeds final mux journal
  pub began : IsPrefix player.seen journal
  pub last : LastMade stopped (tick_now true old) control.own.low final sent
  pub aired : (before : Option (List ℕ)) → PlayedAs mux player.seen player.own.made old before mid end → AirDid mux journal before now sent
  pub tallied : (before : Option (List ℕ))
      → PlayedAs mux player.seen player.own.made old before mid end
      → TallyDid mux journal tally sent

-- ---- a whole run

-- A run: each job did what it read, and its commands alone stand under its number in the journal, which is legal; the
-- control's last turns stand behind them where no job stopped; and the air is that of the journal. Where the player failed, nothing more was
-- sent (`failed`). The journal begins with what the player has seen (`began`).
pub record LiveDid {F S : Type 0} (st : Streams F S) (turns : TableId) (mux : Mux) (cycles : ℕ)
    (readers : List (Reading F)) (reader : Reading S) (playing : Sending)
    (before now : Option (List ℕ)) (journal : List Entry) (sent : Result (Unit {0}) SendStop) : Type 0 where
  pub feeds : List (FeedJob F)
  pub feeds_did : FeedsDid st.feeds (new_feeds turns mux 1 readers) feeds
  pub control : ControlJob S
  pub control_did : ControlDid st.control (new_control turns mux reader) control
  pub player : PlayerJob
  pub played : Sending
  pub mid : Option (List ℕ)
  pub player_did : SwapsPlayed true mux cycles (new_pass turns mux 1) player.pass playing played before mid player.end
  pub final : List Entry
  pub journal_did : JournalDid control.pass.own player.pass.own (callers_of feeds) final mux journal
  pub began : IsPrefix player.pass.seen journal
  pub last : LastMade (halts player.end control.stop (feeds_stop None 1 (stops_of feeds)))
      (tick_of mux journal cycles) control.pass.own.low final sent
  pub air : AirDid mux journal before now sent
  pub failed : (stop : SendStop) → player.end ≡ Err stop → sent ≡ Err stop
