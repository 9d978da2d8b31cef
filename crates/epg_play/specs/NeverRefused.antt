-- The law of the checkpoint of a journal and of its air.
use Rattle.std.specs.Prelude.{◌≡◌, ◌<◌, ◌^◌, ◌++◌, ℕ, List, Option, Some, None, Ok, map}
use Rattle.std.specs.List.{All}
use Rattle.version_book.specs.declared.key_version.KeyVersion.{KeyVersion}
use Rattle.version_book.specs.Airings.{AiredTables}
use Rattle.version_book.specs.Book.{BookStandsFor, AreOrdered, given_entries}
use Rattle.ts_packets.specs.declared.pid_counter.PidCounter.{PidCounter}
use Rattle.ts_packets.specs.Bytes.{Packet, bytes_of_packet}
use Rattle.ts_packets.specs.PidCounters.{IsPidCounter, AreCountersOf}
use Rattle.air_model.specs.Air.{Aired, HasNoNull, air, airings_of}
use Rattle.cycle_player.specs.Clock.{reads}
use Rattle.cycle_player.specs.Playing.{clock_kept}
use Rattle.cycle_player.specs.declared.clock.Clock.{Clock}
use Rattle.cycle_player.specs.Airs.{IsAirAt}
use Rattle.mux_model.specs.declared.mux.Mux.{Mux}
use Rattle.mux_model.specs.Sound.{IsSoundWithIds}
use Rattle.journal_model.specs.declared.step.Entry.{Entry}
use Rattle.desk_core.specs.Journal.{Legal, publishes}
use Rattle.input_lines.specs.Ahead.{Tail}
use Rattle.journal_text.specs.CommandBack.{ahead_of}
use Rattle.journal_air.specs.Air.{airings}
use Rattle.journal_air.specs.Laws.{HasTypedEdits}
use Rattle.desk_checkpoint.specs.Steps.{checkpoint_steps}
use Rattle.desk_checkpoint.specs.Checkpoints.{Checkpoint}
use Rattle.desk_checkpoint.specs.Reads.{checkpoint_in}
use Rattle.desk_checkpoint.specs.HandedOver.{AreHandedOver, DoPidsAscend}
use Rattle.desk_checkpoint.specs.Text.{HasByteBodies, checkpoint_text}
use Rattle.desk_checkpoint.specs.Laws.{CanBeFolded, AreKeysWritten, AreCountersWritten, IsCheckpointOf}

-- ---- laws

-- What is kept of the keys that the airings of a legal journal carried is such as the text of a checkpoint can say.
abbrev pub KeysAreWritten : Type 0
KeysAreWritten =
    (mux : Mux) (journal : List Entry) (keys : List KeyVersion)
    → IsSoundWithIds mux → HasTypedEdits journal → Legal mux journal
    → BookStandsFor (airings mux journal) (given_entries keys)
    → AreOrdered (given_entries keys) → HasByteBodies (given_entries keys)
    → AreKeysWritten (given_entries keys)

-- No null packet was sent, but perhaps at a bit rate.
abbrev pub HasNoNullAt : Option ℕ → List Packet → Type 0
HasNoNullAt None packets = HasNoNull packets
HasNoNullAt (Some rate) packets = Unit {0}

-- So is what is kept of the PIDs of an air, without null packets where there is no bit rate.
abbrev pub CountersAreWritten : Type 0
CountersAreWritten =
    (rate : Option ℕ) (airings : List AiredTables) (xs : List Aired) (pids : List PidCounter)
    → IsAirAt rate airings xs → HasNoNullAt rate (air xs)
    → AreCountersOf (map bytes_of_packet (air xs)) pids
    → DoPidsAscend pids → All IsPidCounter pids
    → AreCountersWritten rate pids

-- At a bit rate the clock after these cycles has a moment of at most 18 digits. Without one no
-- clock is written.
abbrev pub HasShortMoment : Option ℕ → List Aired → Type 0
HasShortMoment None xs = Unit {0}
HasShortMoment (Some rate) xs = (clock_kept rate xs).moment < 10 ^ 18

-- The text of the checkpoint of a journal, with what a player keeps that has handed out an air of its airings, is read as the
-- checkpoint, whatever follows its end.
abbrev pub CheckpointsAreRead : Type 0
CheckpointsAreRead =
    (mux : Mux) (journal : List Entry) (xs : List Aired)
    (keys : List KeyVersion) (pids : List PidCounter) (clock : Clock)
    (behind : List ℕ) (tail : Tail)
    → IsSoundWithIds mux → CanBeFolded mux journal
    → airings_of xs ≡ airings mux journal → AreHandedOver mux.rate xs keys pids clock
    → HasShortMoment mux.rate xs
    → let entries = given_entries keys in
    let text = checkpoint_text (publishes journal) mux.rate (reads clock)
    (checkpoint_steps mux journal) entries pids in
    (cp : Checkpoint) × (checkpoint_in mux (ahead_of 1 (text ++ behind) tail) ≡ Ok cp)
    × IsCheckpointOf mux journal entries pids clock cp
