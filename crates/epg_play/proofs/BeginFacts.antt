-- What is begun from the file of a checkpoint.
use Rattle.std.proofs.Common.{◌≡◌, ℕ, List, ap, ◌∙◌}
use Rattle.std.specs.Prelude.{Option, Some, Ok, Err, Result}
use Rattle.std.proofs.KnownBytes.{prepend_known-nil}
use Rattle.si_causes.specs.Reading.{Reading, fresh_to, text_left}
use Rattle.si_causes.specs.Text.{lines_left}
use Rattle.si_causes.specs.Opening.{Files, file_at}
use Rattle.si_causes.specs.declared.stop.ReadStop.TheVariants.{Failed, TooLong as Overlong}
use Rattle.mux_model.specs.declared.mux.Mux.{Mux}
use Rattle.input_lines.specs.Ahead.{Stop, ahead, ahead_in}
use Rattle.desk_checkpoint.specs.declared.start.Start.{Start}
use Rattle.desk_checkpoint.specs.declared.start.CheckStop.{CheckStop}
use Rattle.desk_checkpoint.specs.declared.start.CheckStop.TheVariants.{Line, Read, Memory as NoMemory}
use Rattle.desk_checkpoint.specs.Checkpoints.{Checkpoint}
use Rattle.desk_checkpoint.specs.Starts.{GivesStart}
use Rattle.epg_report.specs.declared.status.Status.{Status}
use Rattle.epg_report.specs.declared.status.Status.TheVariants.{BadCheckpoint, Memory, ReadFault, TooLong as PastLimit}
use Rattle.epg_report.specs.declared.status.Origin.TheVariants.{Recording}
use Rattle.epg_play.specs.Beginning.{BeginsAt, BeginsWith, check_status}
use Rattle.epg_play.specs.Checkpointed.{checkpoint_limit, checkpoint_of}

-- ---- a reader at the front of a file

pub file_text : {F : Type 0} (left : F → Option (List ℕ)) (lines : Reading F) (bytes : List ℕ) → lines ≡ fresh_to checkpoint_limit lines.source → left lines.source ≡ Some bytes → text_left left lines ≡ Some bytes
file_text left lines bytes e told = ap (text_left left) e ∙ prepend_known-nil (left lines.source) ∙ told

pub file_ahead : {F : Type 0} (lines : Reading F) (bytes : List ℕ) → lines ≡ fresh_to checkpoint_limit lines.source → ahead lines bytes ≡ ahead_in 1 (lines_left checkpoint_limit bytes)
file_ahead lines bytes e = ap (λ r. ahead r bytes) e

-- ---- a checkpoint that was read

pub read_with : (found : Result Checkpoint Stop) (start : Start) → GivesStart found (Ok start) → BeginsWith found (Ok start)
read_with found start gives = gives

pub refused_with : (found : Result Checkpoint Stop) (stop : CheckStop) → GivesStart found (Err stop) → BeginsWith found (Err (check_status stop))
refused_with found (Line n) gives = gives
refused_with found (Read Overlong) gives = gives
refused_with found (Read Failed) gives = tt
refused_with found NoMemory gives = tt

-- ---- at a path

pub begins_at : (path : List ℕ) (files : Files) (mux : Mux) (bytes : List ℕ) (result : Result Start Status) → file_at path files ≡ Some bytes → BeginsWith (checkpoint_of mux bytes) result → BeginsAt path files mux result
begins_at path files mux bytes (Ok start) file begins = record { bytes = bytes; file = file; is = begins }
begins_at path files mux bytes (Err (BadCheckpoint n)) file begins = record { bytes = bytes; file = file; is = begins }
begins_at path files mux bytes (Err (PastLimit Recording)) file begins = record { bytes = bytes; file = file; is = begins }
begins_at path files mux bytes (Err (ReadFault Recording)) file begins = tt
begins_at path files mux bytes (Err Memory) file begins = tt
begins_at path files mux bytes (Err other) file begins = absurd begins
