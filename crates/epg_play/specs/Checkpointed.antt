-- The checkpoint of a journal and of its air, as a text.
use Rattle.std.specs.Prelude.{◌≡◌, ℕ, List, Result}
use Rattle.si_causes.specs.Text.{lines_left}
use Rattle.input_lines.specs.Ahead.{Stop, ahead_in}
use Rattle.version_book.specs.declared.key_version.KeyVersion.{KeyVersion}
use Rattle.version_book.specs.Book.{given_entries}
use Rattle.ts_packets.specs.declared.pid_counter.PidCounter.{PidCounter}
use Rattle.air_model.specs.Air.{Aired}
use Rattle.cycle_player.specs.Clock.{reads}
use Rattle.cycle_player.specs.declared.clock.Clock.{Clock}
use Rattle.epg_play.specs.NeverRefused.{HasShortMoment}
use Rattle.mux_model.specs.declared.mux.Mux.{Mux}
use Rattle.journal_model.specs.declared.step.Entry.{Entry}
use Rattle.desk_core.specs.Journal.{publishes}
use Rattle.journal_air.specs.Air.{airings}
use Rattle.journal_air.specs.JournalScreenShown.{IsAsRead}
use Rattle.desk_checkpoint.specs.Steps.{checkpoint_steps}
use Rattle.desk_checkpoint.specs.Checkpoints.{Checkpoint}
use Rattle.desk_checkpoint.specs.Reads.{checkpoint_in}
use Rattle.desk_checkpoint.specs.HandedOver.{AreHandedOver}
use Rattle.desk_checkpoint.specs.Text.{checkpoint_text}
use Rattle.desk_checkpoint.specs.Laws.{CanBeFolded}
use Rattle.cycle_player.specs.Airs.{IsAirAt}

-- how many bytes a checkpoint may have
abbrev pub checkpoint_limit : ℕ
checkpoint_limit = 1073741824

-- the checkpoint of a multiplex that the bytes of a file are, or the stop
abbrev pub checkpoint_of : Mux → List ℕ → Result Checkpoint Stop
checkpoint_of mux bytes = checkpoint_in mux (ahead_in 1 (lines_left checkpoint_limit bytes))

-- A head-end ran: its journal is one that lines gave and that can be folded, and these cycles are an
-- air of it, whose clock can be written at a bit rate.
pub record HasRun (mux : Mux) (journal : List Entry) (cycles : List Aired) : Type 0 where
  pub read : IsAsRead mux journal
  pub folds : CanBeFolded mux journal
  pub is_air : IsAirAt mux.rate (airings mux journal) cycles
  pub clock : HasShortMoment mux.rate cycles

-- The text is the checkpoint of a journal and of an air of it: the count of its publications, at a
-- bit rate the clock, and the steps of its checkpoint; what a player that has handed out the air
-- keeps of its keys and of its counters, in order; and the end. Just one text is.
pub record IsCheckpoint (mux : Mux) (journal : List Entry) (cycles : List Aired) (text : List ℕ) : Type 0 where
  pub keys : List KeyVersion
  pub pids : List PidCounter
  pub clock : Clock
  pub kept : AreHandedOver mux.rate cycles keys pids clock
  pub text_is : text ≡ checkpoint_text (publishes journal) mux.rate (reads clock)
      (checkpoint_steps mux journal) (given_entries keys) pids
