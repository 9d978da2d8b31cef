-- What a player hands over, as a checkpoint has it.
use Rattle.std.specs.Prelude.{◌≡◌, ℕ, List, Option, map}
use Rattle.std.specs.List.{All}
use Rattle.std.specs.List.Sorted.{IsStrictlyIncreasing}
use Rattle.version_book.specs.declared.key_version.KeyVersion.{KeyVersion}
use Rattle.version_book.specs.Book.{AreOrdered, given_entries}
use Rattle.ts_packets.specs.declared.pid_counter.PidCounter.{PidCounter}
use Rattle.ts_packets.specs.PidCounters.{IsPidCounter, kept_from}
use Rattle.air_model.specs.Air.{Aired}
use Rattle.cycle_player.specs.declared.clock.Clock.{Clock}
use Rattle.cycle_player.specs.Clock.{reads}
use Rattle.cycle_player.specs.Sending.{AreKeptAt, AtEnd, Sending}
use Rattle.desk_checkpoint.specs.Text.{HasByteBodies}

-- counters in ascending order of their PIDs
abbrev pub DoPidsAscend : List PidCounter → Type 0
DoPidsAscend pids = IsStrictlyIncreasing (map (λ (c : PidCounter). c.pid) pids)

-- What a player keeps that has handed out the air of xs, at a bit rate or without one, as it hands
-- it over: keys and counters in ascending order, as wide as their fields.
pub record AreHandedOver (rate : Option ℕ) (xs : List Aired) (keys : List KeyVersion)
    (pids : List PidCounter) (clock : Clock) : Type 0 where
  pub kept : AreKeptAt rate xs keys pids clock
  pub ordered : AreOrdered (given_entries keys)
  pub bytes : HasByteBodies (given_entries keys)
  pub ascend : DoPidsAscend pids
  pub fit : All IsPidCounter pids

-- What a player hands over: it is what is kept of each air that it has handed out.
pub record HandsOver (player : Sending) : Type 0 where
  pub keys : List KeyVersion
  pub pids : List PidCounter
  pub clock : Clock
  pub keys_are : given_entries keys ≡ player.book
  pub pids_are : pids ≡ kept_from 0 player.counters
  pub clock_is : reads clock ≡ player.clock
  pub are : (xs : List Aired) → AtEnd xs player → AreHandedOver player.rate xs keys pids clock
