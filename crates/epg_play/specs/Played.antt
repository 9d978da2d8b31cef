-- What playing the commands of a script leaves: the desk, and what the air took.
use Rattle.std.specs.Prelude.{◌≡◌, ◌≤◌, ℕ, false, is_some, List, [], ◌++◌, take, Option, Some, None, Err, Result}
use Rattle.std.specs.Io.KnownBytes.{IsAtEnd}
use Rattle.si_causes.specs.Causes.{Rose}
use Rattle.si_causes.specs.Reading.{Reading}
use Rattle.si_causes.specs.declared.stop.ReadStop.TheVariants.{Failed}
use Rattle.input_lines.specs.Going.{WereWhole}
use Rattle.air_model.specs.Air.{Aired}
use Rattle.cycle_player.specs.Sending.{Sending}
use Rattle.mux_model.specs.declared.mux.Mux.{Mux}
use Rattle.input_lines.specs.declared.stop.EditStop.{EditStop}
use Rattle.input_lines.specs.declared.stop.EditStop.TheVariants as edits
use Rattle.input_lines.specs.Ahead.{Ahead, Breaks}
use Rattle.input_lines.specs.Ahead as reading
use Rattle.input_lines.specs.Reads.{ahead_with}
use Rattle.journal_model.specs.declared.step.Outcome.{Outcome}
use Rattle.journal_model.specs.declared.step.Entry.{Entry}
use Rattle.desk_core.specs.Journal.{journal_after}
use Rattle.journal_model.specs.Steps.{Command, IsInWindow}
use Rattle.desk_core.specs.Desks.{DeskState}
use Rattle.script_lines.specs.declared.script.ScriptItem.{ScriptItem}
use Rattle.script_lines.specs.Script.{Asked, asked_by, items_ahead, kept_first}
use Rattle.journal_model.specs.Raising.{all_raised}
use Rattle.journal_air.specs.OnAir.{HasAired, HasAiredFront}
use Rattle.journal_air.specs.Tallied.{HasTallied}
use Rattle.journal_air.specs.declared.send.SendStop.{SendStop}
use Rattle.journal_air.specs.declared.send.SendStop.TheVariants as send
use Rattle.epg_play.specs.declared.stop.PlayStop.{PlayStop}
use Rattle.epg_play.specs.declared.stop.PlayStop.TheVariants.{NoMux as Undescribed, NoCommand as Refused, Disagrees, Read, Air, Memory}
use Rattle.epg_play.specs.Leaves.{met_by, script_status}
use Rattle.epg_play.specs.Script.{Stop, Disagreed, commands_of, difference, first_difference, stop_of, up_to}

-- ---- one cycle

-- the stop where a cycle was not sent whole
abbrev pub send_stop : SendStop → PlayStop
send_stop send.Air = Air
send_stop send.Memory = Memory

-- what the air has after earlier cycles, once a script is played as far as this
abbrev pub AiredTo : {T : Type 0} → List Aired → DeskState → Sending → Option (List ℕ) → Option (List ℕ) → Result T PlayStop → Type 0
AiredTo earlier desk player before now (Err Air) = HasAiredFront earlier desk before now
AiredTo earlier desk player before now (Err Memory) = Unit {0}
AiredTo earlier desk player before now result = HasAired earlier desk player before now

-- the player's tally is that of the desk's journal, once a script is played as far as this
abbrev pub TalliedTo : {T : Type 0} → DeskState → Sending → Result T PlayStop → Type 0
TalliedTo desk player (Err Memory) = Unit {0}
TalliedTo desk player result = HasTallied desk player

-- a stop by a failed write has its cause, and one by a failed read
abbrev pub HasAirCause : {T : Type 0} → ℕ → ℕ → Result T PlayStop → Type 0
HasAirCause before now (Err Air) = Rose before now
HasAirCause before now result = Unit {0}

abbrev pub HasReadCause : {T : Type 0} → ℕ → ℕ → Result T PlayStop → Type 0
HasReadCause before now (Err (Read Failed)) = Rose before now
HasReadCause before now result = Unit {0}

-- What reading left: an input that is at its end where the script is, a failed read that has its cause, and the same source.
pub record HasRead {S T : Type 0} (left : S → Option (List ℕ)) (faults : S → ℕ) (alike : S → S → Type 0) (old new : S) (Ended : Type 0) (result : Result T PlayStop) : Type 0 where
  pub end : Ended → IsAtEnd (left new)
  pub cause : HasReadCause (faults old) (faults new) result
  pub later : faults old ≤ faults new
  pub same : alike old new

-- a stop of a script that goes on after its description: no fault of that, and the outcomes of a disagreement can be written
abbrev pub IsStopBehind : PlayStop → Type 0
IsStopBehind (Undescribed fault) = ⊥
IsStopBehind (Disagrees n kept found) = IsInWindow kept × IsInWindow found
IsStopBehind stop = Unit {0}

-- no item of it sends anything
abbrev pub IsItemStop : PlayStop → Type 0
IsItemStop Air = ⊥
IsItemStop stop = IsStopBehind stop

-- the stop of a call that reads
abbrev pub read_stop : EditStop → PlayStop
read_stop (edits.NoCommand n) = Refused n
read_stop (edits.Read stop) = Read stop
read_stop edits.Memory = Memory

-- ---- the rest of a script

-- what is kept after an outcome that was made just before, where it is another
abbrev pub late_difference : Option Outcome → Option (ℕ × Outcome) → Option Stop
late_difference None kept = None
late_difference (Some found) kept = difference kept found

-- the stop at a difference, and none where there is none
abbrev pub IsDifference : Option Stop → Option PlayStop → Type 0
IsDifference stop None = stop ≡ None
IsDifference stop (Some (Disagrees n kept found)) = stop ≡ Some (Disagreed n kept found)
IsDifference stop (Some other) = ⊥

abbrev pub unless_late : Option Stop → List Command × Stop → List Command × Stop
unless_late (Some stop) played = ([], stop)
unless_late None played = played

-- As `played_after`, where the outcomes that are kept have the numbers of publications raised by the shift.
abbrev pub played_raised : ℕ → Mux → List Entry → List Asked → Stop → List Command × Stop
played_raised shift mux before asked stop =
    up_to (first_difference asked (all_raised shift (journal_after mux before (commands_of asked)))) (commands_of asked) stop

-- Of these items, what is played after these entries; `made` is the raised outcome of the last, where it was made just before.
abbrev pub course_of : ℕ → Mux → List Entry → Option Outcome → List ScriptItem × reading.Stop → List Command × Stop
course_of shift mux before made items =
    unless_late (late_difference made (kept_first items.0)) (played_raised shift mux before (asked_by items.0) (stop_of items.1))

-- the same of what is ahead
abbrev pub course : ℕ → Mux → List Entry → Option Outcome → Ahead → List Command × Stop
course shift mux before made lines = course_of shift mux before made (items_ahead (is_some made) lines)

-- the desk after these commands
abbrev pub desk_after : DeskState → List Command → DeskState
desk_after desk commands = record { mux = desk.mux; entries = desk.entries ++ journal_after desk.mux desk.entries commands }

-- What playing commands does to a desk, by how it ends. Where a read failed, they are those of the lines that were whole.
abbrev pub DeskDid : List Command × Stop → DeskState → DeskState → Result (Unit {0}) PlayStop → Type 0
DeskDid rest old new (Err (Undescribed fault)) = ⊥
DeskDid rest old new (Err Air) = (k : ℕ) × (new ≡ desk_after old (take k rest.0))
DeskDid rest old new (Err Memory) = Unit {0}
DeskDid rest old new result = (met_by result ≡ script_status rest.1) × (new ≡ desk_after old rest.0)

-- so do those of all that is ahead, but where a read failed
abbrev pub RestDid : List Command × Stop → DeskState → DeskState → Result (Unit {0}) PlayStop → Type 0
RestDid rest old new (Err (Read Failed)) = Unit {0}
RestDid rest old new result = DeskDid rest old new result

-- A read failed: of the lines that were whole in the bytes taken all commands were played.
pub record PlayedWhole {S : Type 0} (shift : ℕ) (left : S → Option (List ℕ)) (old new : Reading S) (desk after : DeskState) : Type 0 where
  pub lines : List (List ℕ)
  pub whole : WereWhole left old new lines
  pub unended : old.ended ≡ false
  pub did : DeskDid (course shift desk.mux desk.entries None (ahead_with old lines Breaks)) desk after (Err (Read Failed))

-- what playing the rest of a script tells of the bytes that the source gave
abbrev pub RestTaken : {S : Type 0} → ℕ → (S → Option (List ℕ)) → Reading S → Reading S → DeskState → DeskState → Result (Unit {0}) PlayStop → Type 0
RestTaken shift left old new desk after (Err (Read Failed)) = PlayedWhole shift left old new desk after
RestTaken shift left old new desk after result = Unit {0}
