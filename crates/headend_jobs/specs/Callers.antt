-- Each caller's commands in the journal of a run.
use Rattle.std.specs.Prelude.{◌≡◌, ℕ, suc, ◌+◌, ◌<◌, ◌≤◌, List, [], ◌∷◌, ◌++◌, length, map, take, Option, Some, None, Ok, Err, Result}
use Rattle.si_causes.specs.Reading.{Reading, text_left}
use Rattle.mux_model.specs.declared.mux.Mux.{Mux}
use Rattle.input_lines.specs.declared.stop.EditStop.{EditStop}
use Rattle.input_lines.specs.Ahead.{Ahead, Stop, ahead}
use Rattle.script_lines.specs.Edits.{edits_ahead}
use Rattle.journal_model.specs.declared.step.Step.{Step}
use Rattle.journal_model.specs.declared.step.Entry.{Entry}
use Rattle.journal_model.specs.Steps.{Command, command_of}
use Rattle.journal_air.specs.declared.send.SendStop.{SendStop}
use Rattle.journal_air.specs.declared.send.SendStop.TheVariants.{Air, Memory}
use Rattle.turn_lock.specs.Journal.{entries_of}
use Rattle.desk_hall.specs.Turn.{caller_of}
use Rattle.desk_hall.specs.Reads.{commands_by, edit_step, control_step, controls_ahead, ToldDid, TakenDid}
use Rattle.headend_jobs.specs.declared.jobs.FeedJob.{FeedJob}
use Rattle.headend_jobs.specs.declared.jobs.ControlJob.{ControlJob}
use Rattle.headend_jobs.specs.Jobs.{Streams}
use Rattle.headend_jobs.specs.Ticking.{tick_by, tick_of, ticks_of, turns_by}

-- under this number the journal has these commands, each once, in order
abbrev pub CommandsAre : List Entry → ℕ → List Command → Type 0
CommandsAre journal who commands = map command_of (entries_of caller_of who journal) ≡ commands

-- Under its number the journal has the commands of what a caller read from its lines, and then these.
pub record CallerRead {T S : Type 0} (step : T → Step) (all : Ahead → List T × Stop) (left : S → Option (List ℕ)) (journal : List Entry) (who : ℕ) (then : List Command)
    (old new : Reading S) (stop : Option EditStop) : Type 0 where
  pub did : (values : List T) × CommandsAre journal who (commands_by who step values ++ then)
  pub told : old.stop ≡ None → (text : List ℕ) → text_left left old ≡ Some text → ToldDid (λ values. CommandsAre journal who (commands_by who step values ++ then)) (all (ahead old text)) stop
  pub taken : old.stop ≡ None → TakenDid (λ values. CommandsAre journal who (commands_by who step values ++ then)) left all old new stop

-- So has each feed, up to the stop of its job: feed n is caller n + 1, and the first of these has number n.
abbrev pub FeedsRead : {S : Type 0} → (S → Option (List ℕ)) → List Entry → ℕ → List (Reading S) → List (FeedJob S) → Type 0
FeedsRead left journal n [] [] = Unit {0}
FeedsRead left journal n [] (job ∷ jobs) = ⊥
FeedsRead left journal n (reader ∷ readers) [] = ⊥
FeedsRead left journal n (reader ∷ readers) (job ∷ jobs) =
    (job.feed ≡ n)
    × CallerRead (edit_step n) edits_ahead left journal (n + 1) [] reader job.lines job.stop
    × FeedsRead left journal (n + 1) readers jobs

-- Caller 1 made its swaps, each after its tick: all, or so many of them where the air failed in the
-- last. Where memory was wanting, it made so many, and perhaps the tick of the next.
abbrev pub PlayerSwapped : Mux → List Entry → ℕ → Result (Unit {0}) SendStop → Type 0
PlayerSwapped mux journal n (Ok u) = CommandsAre journal 1 (turns_by 1 (ticks_of mux journal n))
PlayerSwapped mux journal n (Err Air) =
    (k : ℕ) × (k < n) × CommandsAre journal 1 (turns_by 1 (ticks_of mux journal (suc k)))
PlayerSwapped mux journal n (Err Memory) =
    (k more : ℕ) × (k + more ≤ n) × CommandsAre journal 1
    (turns_by 1 (ticks_of mux journal k) ++ take more (tick_by 1 (tick_of mux journal k)))

-- A run's callers, each with exactly its commands, and no others; after the control's lines stand its last turns.
pub record HaveTheirCommands {F S : Type 0} (st : Streams F S) (mux : Mux) (journal : List Entry) (cycles : ℕ)
    (readers : List (Reading F)) (reader : Reading S) (feeds : List (FeedJob F)) (control : ControlJob S)
    (player : Result (Unit {0}) SendStop) (final : List Entry) : Type 0 where
  pub feeds_read : FeedsRead st.feeds.left journal 1 readers feeds
  pub control_read : CallerRead control_step controls_ahead st.control.left journal 0 (map command_of final)
      reader control.lines control.stop
  pub player_swapped : PlayerSwapped mux journal cycles player
  pub others : (k : ℕ) → length readers + 2 ≤ k → entries_of caller_of k journal ≡ []
