-- The checkpoint of a journal and of its air is read back.
use Rattle.std.proofs.Common.{ℕ, List, map, subst}
use Rattle.std.specs.Prelude.{Option, Some, None}
use Rattle.version_book.specs.declared.key_version.KeyVersion.{KeyVersion}
use Rattle.version_book.specs.Airings.{AiredTables}
use Rattle.version_book.specs.Book.{BookStandsFor, given_entries}
use Rattle.ts_packets.specs.declared.pid_counter.PidCounter.{PidCounter}
use Rattle.ts_packets.specs.Bytes.{bytes_of_packet}
use Rattle.ts_packets.specs.PidCounters.{AreCountersOf}
use Rattle.air_model.specs.Air.{Aired, air, airings_of}
use Rattle.cycle_timing.proofs.Airs.{timed_airs_are_airs}
use Rattle.cycle_player.specs.declared.clock.Clock.{Clock}
use Rattle.cycle_player.specs.Airs.{IsAirAt}
use Rattle.cycle_player.specs.Sending.{AreKeptAt}
use Rattle.desk_core.proofs.TypedFacts.{accepted_typed}
use Rattle.desk_checkpoint.proofs.CheckpointBack.{checkpoints_back}
use Rattle.epg_play.specs.NeverRefused.{CheckpointsAreRead, HasNoNullAt}
use Rattle.epg_play.proofs.KeysKept.{keys_written}
use Rattle.epg_play.proofs.PidsKept.{counters_written}
use Rattle.epg_play.proofs.ClockKept.{clock_written}

-- ---- what is kept, at a bit rate or without one

abbrev AreAllKept : Option ℕ → List Aired → List KeyVersion → List PidCounter → Type 0
AreAllKept rate xs keys pids =
    BookStandsFor (airings_of xs) (given_entries keys) × AreCountersOf (map bytes_of_packet (air xs)) pids × IsAirAt rate (airings_of xs) xs × HasNoNullAt rate (air xs)

all_kept : (rate : Option ℕ) (xs : List Aired) (keys : List KeyVersion) (pids : List PidCounter) (clock : Clock) → AreKeptAt rate xs keys pids clock → AreAllKept rate xs keys pids
all_kept None xs keys pids clock kept = (kept.versions, kept.counters, kept.is_air, kept.no_null)
all_kept (Some rate) xs keys pids clock kept = (kept.versions, kept.counters, timed_airs_are_airs rate xs kept.timed kept.can, tt)

pub checkpoints_read : CheckpointsAreRead
checkpoints_read mux journal xs keys pids clock behind tail sound can same handed short =
    let typed = accepted_typed journal can.typed in
    let kept = all_kept mux.rate xs keys pids clock handed.kept in
    let stands = subst (λ (past : List AiredTables). BookStandsFor past (given_entries keys)) same kept.0 in
    checkpoints_back mux journal (given_entries keys) pids clock can
    (keys_written mux journal keys sound typed can.legal stands handed.ordered handed.bytes)
    (counters_written mux.rate (airings_of xs) xs pids kept.2 kept.3 kept.1 handed.ascend handed.fit)
    (clock_written mux.rate xs keys pids clock sound.sound.rate handed.kept short) behind tail
