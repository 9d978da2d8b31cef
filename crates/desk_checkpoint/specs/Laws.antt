-- The law of checkpoints: what is written is read back.
use Rattle.std.specs.Prelude.{◌≡◌, ◌≢◌, ◌<◌, ◌≤◌, ◌^◌, ◌++◌, ℕ, true, List, [], Option, Some, None, Ok, length, map}
use Rattle.std.specs.List.{AllByRecursion}
use Rattle.std.specs.List.Sorted.{IsStrictlyIncreasing}
use Rattle.section_codec.specs.declared.table.Key.{Key}
use Rattle.section_codec.specs.declared.table.NumberedBody.{NumberedBody}
use Rattle.section_codec.specs.Contents.{Ascend}
use Rattle.version_book.specs.Book.{GivenVersion, GivenVersions, AreOrdered, given_entries}
use Rattle.ts_packets.specs.declared.pid_counter.PidCounter.{PidCounter}
use Rattle.cycle_player.specs.declared.clock.Clock.{Clock}
use Rattle.cycle_player.specs.Clock.{reads}
use Rattle.mux_model.specs.declared.mux.Mux.{Mux}
use Rattle.mux_model.specs.Fed.{IsNamed, fed_services}
use Rattle.mux_model.specs.Sound.{IsSound}
use Rattle.journal_model.specs.declared.step.Entry.{Entry}
use Rattle.journal_model.specs.Steps.{Command, IsStepWithin, IsTypedStep}
use Rattle.desk_core.specs.Journal.{Legal, publishes}
use Rattle.desk_core.specs.Desks.{DeskState}
use Rattle.input_lines.specs.Ahead.{Tail}
use Rattle.journal_text.specs.CommandBack.{IsReadableCommand, ahead_of}
use Rattle.desk_checkpoint.specs.Steps.{checkpoint_steps, folded}
use Rattle.section_codec.specs.Keys.{is_listed}
use Rattle.desk_checkpoint.specs.Checkpoints.{Checkpoint, last_pid}
use Rattle.desk_checkpoint.specs.Reads.{checkpoint_in, no_clock}
use Rattle.desk_checkpoint.specs.Text.{checkpoint_text}

-- ---- what is written

-- A journal that can be folded: a legal one of a sound multiplex whose names may be kept, with steps that a desk may be asked and that
-- lines can give, and with fewer publications than 10^18.
pub record CanBeFolded (mux : Mux) (journal : List Entry) : Type 0 where
  pub sound : IsSound mux
  pub named : AllByRecursion IsNamed (fed_services mux)
  pub legal : Legal mux journal
  pub within : AllByRecursion (λ (entry : Entry). IsStepWithin entry.step) journal
  pub typed : AllByRecursion (λ (entry : Entry). IsTypedStep entry.step) journal
  pub few : publishes journal < 10 ^ 18

-- a section of a number of 8 bits, whose body has at most 4,084 bytes
pub record IsSectionWritten (section : NumberedBody) : Type 0 where
  pub number : section.number ≤ 255
  pub bytes : AllByRecursion (λ b. b < 256) section.body
  pub short : length section.body ≤ 4084

-- A key with its last version and content: it stands in the table of PIDs and table_ids, its other numbers have 16 bits, the version has
-- 5 bits (ISO/IEC 13818-1, 2.4.4.5), and there are sections, whose numbers ascend.
pub record IsKeyWritten (entry : Key × GivenVersion) : Type 0 where
  pub listed : is_listed entry.0 ≡ true
  pub ext : entry.0.ext ≤ 65535
  pub stream : entry.0.stream ≤ 65535
  pub network : entry.0.network ≤ 65535
  pub version : entry.1.version < 32
  pub some : entry.1.content ≢ []
  pub ascend : Ascend entry.1.content
  pub sections : AllByRecursion IsSectionWritten entry.1.content

-- such keys, in ascending order
pub record AreKeysWritten (keys : GivenVersions) : Type 0 where
  pub ordered : AreOrdered keys
  pub each : AllByRecursion IsKeyWritten keys

-- a counter of 4 bits of a PID that is not that of null packets, but at a bit rate
-- (ISO/IEC 13818-1, 2.4.3.3)
pub record IsCounterWritten (rate : Option ℕ) (counter : PidCounter) : Type 0 where
  pub pid : counter.pid ≤ last_pid rate
  pub next : counter.next < 16

-- such counters, in ascending order of PIDs
pub record AreCountersWritten (rate : Option ℕ) (counters : List PidCounter) : Type 0 where
  pub ascend : IsStrictlyIncreasing (map (λ (c : PidCounter). c.pid) counters)
  pub each : AllByRecursion (IsCounterWritten rate) counters

-- a clock whose moment has at most 18 digits, and whose bits have at most eight
pub record IsShortClock (clock : Clock) : Type 0 where
  pub moment : clock.moment < 10 ^ 18
  pub bits : clock.bits ≤ 99999999

-- where there is a bit rate, since without one no clock is written
abbrev pub IsClockWritten : Option ℕ → Clock → Type 0
IsClockWritten None clock = Unit {0}
IsClockWritten (Some rate) clock = IsShortClock clock

-- ---- what is read

-- the clock, which stands at 0 where there is no bit rate
abbrev pub clock_at : Option ℕ → Clock → Clock
clock_at None clock = no_clock
clock_at (Some rate) clock = clock

-- the checkpoint of a journal, with these keys and counters and this clock
pub record IsCheckpointOf (mux : Mux) (journal : List Entry) (keys : GivenVersions)
    (counters : List PidCounter) (clock : Clock) (cp : Checkpoint) : Type 0 where
  pub count : cp.count ≡ publishes journal
  pub desk : (let d : DeskState = record { mux = mux; entries = folded mux journal } in cp.desk ≡ d)
  pub keys_are : given_entries cp.keys ≡ keys
  pub counters_are : cp.counters ≡ counters
  pub clock_is : cp.clock ≡ clock_at mux.rate clock

-- ---- laws

-- The steps of the checkpoint of such a journal are asked by caller 0, and read back from their text.
abbrev pub StepsAreReadable : Type 0
StepsAreReadable =
    (mux : Mux) (journal : List Entry) → CanBeFolded mux journal
    → AllByRecursion (λ (command : Command). (command.0 ≡ 0) × IsReadableCommand 0 command.1) (checkpoint_steps mux journal)

-- The text of the checkpoint is read as the checkpoint, whatever stands after its end.
abbrev pub CheckpointsReadBack : Type 0
CheckpointsReadBack =
    (mux : Mux) (journal : List Entry) (keys : GivenVersions) (counters : List PidCounter)
    (clock : Clock)
    → CanBeFolded mux journal → AreKeysWritten keys → AreCountersWritten mux.rate counters
    → IsClockWritten mux.rate clock → (behind : List ℕ) (tail : Tail)
    → let text = checkpoint_text (publishes journal) mux.rate (reads clock)
    (checkpoint_steps mux journal) keys counters in
    (cp : Checkpoint) × (checkpoint_in mux (ahead_of 1 (text ++ behind) tail) ≡ Ok cp)
    × IsCheckpointOf mux journal keys counters clock cp
