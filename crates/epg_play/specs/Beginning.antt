-- From what a run goes on: the file of a checkpoint, or a head-end that did nothing yet.
use Rattle.std.specs.Prelude.{◌≡◌, ℕ, [], List, Ok, Err, Result}
use Rattle.si_causes.specs.Causes.{Rose}
use Rattle.si_causes.specs.Opening.{Files}
use Rattle.si_causes.specs.declared.stop.ReadStop.TheVariants.{Failed, TooLong as Overlong}
use Rattle.input_lines.specs.Ahead.{NoCommand, Stop, TooLong}
use Rattle.cycle_player.specs.Sending.{AtEnd}
use Rattle.cycle_player.specs.Tally.{no_cycles}
use Rattle.mux_model.specs.declared.mux.Mux.{Mux}
use Rattle.desk_core.specs.Desks.{fresh}
use Rattle.journal_air.specs.OnAir.{IsPlayerOf}
use Rattle.desk_checkpoint.specs.declared.start.Start.{Start}
use Rattle.desk_checkpoint.specs.declared.start.CheckStop.{CheckStop}
use Rattle.desk_checkpoint.specs.declared.start.CheckStop.TheVariants.{Line, Read, Memory as NoMemory}
use Rattle.desk_checkpoint.specs.Checkpoints.{Checkpoint}
use Rattle.desk_checkpoint.specs.Starts.{StartsFrom}
use Rattle.epg_report.specs.declared.status.Status.{Status}
use Rattle.epg_report.specs.declared.status.Status.TheVariants.{BadCheckpoint, Memory, OpenFault, ReadFault, TooLong as PastLimit}
use Rattle.epg_report.specs.declared.status.Origin.TheVariants.{Recording}
use Rattle.epg_report.specs.Asked.{AtPath}
use Rattle.epg_play.specs.Leaves.{IsOfPlay}
use Rattle.epg_play.specs.Checkpointed.{checkpoint_of}

-- a head-end that did nothing yet
pub record IsNew (mux : Mux) (start : Start) : Type 0 where
  pub desk : start.desk ≡ fresh mux
  pub shift : start.shift ≡ 0
  pub player : AtEnd [] start.player
  pub player_of : IsPlayerOf mux start.player
  pub tally : start.player.tally ≡ no_cycles

-- the status of a run whose checkpoint was not read
abbrev pub check_status : CheckStop → Status
check_status (Line n) = BadCheckpoint n
check_status (Read Overlong) = PastLimit Recording
check_status (Read Failed) = ReadFault Recording
check_status NoMemory = Memory

-- what is begun from a file, by what its bytes are read as
abbrev pub BeginsWith : Result Checkpoint Stop → Result Start Status → Type 0
BeginsWith found (Ok start) = (cp : Checkpoint) × (found ≡ Ok cp) × StartsFrom cp start
BeginsWith found (Err (BadCheckpoint n)) = found ≡ Err (NoCommand n)
BeginsWith found (Err (PastLimit Recording)) = found ≡ Err TooLong
BeginsWith found (Err (ReadFault Recording)) = Unit {0}
BeginsWith found (Err Memory) = Unit {0}
BeginsWith found (Err status) = ⊥

-- what is begun from the file at a path
abbrev pub BeginsAt : List ℕ → Files → Mux → Result Start Status → Type 0
BeginsAt path files mux (Err (OpenFault n)) = n ≡ 0
BeginsAt path files mux (Err (ReadFault Recording)) = Unit {0}
BeginsAt path files mux (Err Memory) = Unit {0}
BeginsAt path files mux result = AtPath path files (λ bytes. BeginsWith (checkpoint_of mux bytes) result)

-- the statuses of a run whose checkpoint was not read, and of one that was not begun
abbrev pub IsRefused : Status → Type 0
IsRefused (BadCheckpoint n) = Unit {0}
IsRefused (PastLimit Recording) = Unit {0}
IsRefused (ReadFault Recording) = Unit {0}
IsRefused Memory = Unit {0}
IsRefused status = ⊥

abbrev pub IsNotBegun : Status → Type 0
IsNotBegun (OpenFault n) = n ≡ 0
IsNotBegun status = IsRefused status

-- a failed read has its cause, in the file and in its opener
abbrev pub HasFileCause : ℕ → ℕ → Result Start Status → Type 0
HasFileCause before now (Err (ReadFault Recording)) = Rose before now
HasFileCause before now result = Unit {0}

abbrev pub HasOpenCause : ℕ → ℕ → Result Start Status → Type 0
HasOpenCause before now (Err (OpenFault n)) = Rose before now
HasOpenCause before now result = Unit {0}

-- the statuses of `play --resume`
abbrev pub IsOfResume : Status → Type 0
IsOfResume (OpenFault n) = n ≡ 0
IsOfResume (BadCheckpoint n) = Unit {0}
IsOfResume (PastLimit Recording) = Unit {0}
IsOfResume (ReadFault Recording) = Unit {0}
IsOfResume status = IsOfPlay status
