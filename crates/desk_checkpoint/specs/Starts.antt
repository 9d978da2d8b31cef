-- What reading a checkpoint gives.
use Rattle.std.specs.Prelude.{◌≡◌, ℕ, ◌<◌, ◌^◌, List, [], Ok, Err, Result}
use Rattle.si_causes.specs.Causes.{Rose}
use Rattle.si_causes.specs.declared.stop.ReadStop.TheVariants.{Failed, TooLong as Overlong}
use Rattle.input_lines.specs.declared.stop.EditStop.{EditStop}
use Rattle.input_lines.specs.declared.stop.EditStop.TheVariants as edits
use Rattle.input_lines.specs.Ahead.{Stop, NoCommand, TooLong}
use Rattle.air_model.specs.Air.{Aired}
use Rattle.cycle_player.specs.Sending.{AtEnd, AreKeptAt}
use Rattle.cycle_player.specs.Tally.{no_cycles}
use Rattle.mux_model.specs.declared.mux.Mux.{Mux}
use Rattle.journal_air.specs.OnAir.{IsPlayerOf}
use Rattle.desk_checkpoint.specs.Steps.{shift_of}
use Rattle.desk_checkpoint.specs.declared.start.CheckStop.{CheckStop}
use Rattle.desk_checkpoint.specs.declared.start.CheckStop.TheVariants.{Line, Read, Memory}
use Rattle.desk_checkpoint.specs.declared.start.Start.{Start}
use Rattle.desk_checkpoint.specs.Checkpoints.{Checkpoint}

abbrev pub check_stop : EditStop → CheckStop
check_stop (edits.NoCommand n) = Line n
check_stop (edits.Read stop) = Read stop
check_stop edits.Memory = Memory

-- what reading the rest of a checkpoint gives, where the text is told
abbrev pub GivesRest : Result Checkpoint Stop → Checkpoint → Result (Unit {0}) EditStop → Type 0
GivesRest found new (Ok u) = found ≡ Ok new
GivesRest found new (Err (edits.NoCommand n)) = found ≡ Err (NoCommand n)
GivesRest found new (Err (edits.Read Overlong)) = found ≡ Err TooLong
GivesRest found new (Err (edits.Read Failed)) = Unit {0}
GivesRest found new (Err edits.Memory) = Unit {0}

-- and what reading a whole one gives
abbrev pub GivesCheckpoint : Result Checkpoint Stop → Result Checkpoint EditStop → Type 0
GivesCheckpoint found (Ok cp) = found ≡ Ok cp
GivesCheckpoint found (Err (edits.NoCommand n)) = found ≡ Err (NoCommand n)
GivesCheckpoint found (Err (edits.Read Overlong)) = found ≡ Err TooLong
GivesCheckpoint found (Err (edits.Read Failed)) = Unit {0}
GivesCheckpoint found (Err edits.Memory) = Unit {0}

-- a failed read has its cause
abbrev pub HasRestCause : {T : Type 0} → ℕ → ℕ → Result T EditStop → Type 0
HasRestCause before now (Err (edits.Read Failed)) = Rose before now
HasRestCause before now result = Unit {0}

abbrev pub HasCheckCause : {T : Type 0} → ℕ → ℕ → Result T CheckStop → Type 0
HasCheckCause before now (Err (Read Failed)) = Rose before now
HasCheckCause before now result = Unit {0}

-- A start from a checkpoint: the desk after its steps, the shift of its count, and a player that stands for each air whose keys and
-- counters, and at a bit rate clock, are those of the checkpoint.
pub record StartsFrom (cp : Checkpoint) (start : Start) : Type 0 where
  pub desk : start.desk ≡ cp.desk
  pub shift : start.shift ≡ shift_of cp.count
  pub player : (xs : List Aired) → AreKeptAt cp.desk.mux.rate xs cp.keys cp.counters cp.clock
      → AtEnd xs start.player

-- Whatever was read: the desk is one of the multiplex, and so is the player, which is at its end and
-- has counted no cycle.
pub record IsStart (mux : Mux) (start : Start) : Type 0 where
  pub mux_is : start.desk.mux ≡ mux
  pub ended : start.player.left ≡ []
  pub player_of : IsPlayerOf mux start.player
  pub shift : start.shift < 10 ^ 18
  pub tally : start.player.tally ≡ no_cycles

-- what reading a checkpoint gives, where the text is told
abbrev pub GivesStart : Result Checkpoint Stop → Result Start CheckStop → Type 0
GivesStart found (Ok start) = (cp : Checkpoint) × (found ≡ Ok cp) × StartsFrom cp start
GivesStart found (Err (Line n)) = found ≡ Err (NoCommand n)
GivesStart found (Err (Read Overlong)) = found ≡ Err TooLong
GivesStart found (Err (Read Failed)) = Unit {0}
GivesStart found (Err Memory) = Unit {0}
