-- What a reading keeps beside the checkpoint so far.
use Rattle.std.specs.Prelude.{◌≡◌, ◌≤◌, ◌<◌, ◌^◌, ℕ, IfSome}
use Rattle.std.specs.List.{All}
use Rattle.version_book.specs.declared.key_version.KeyVersion.{KeyVersion}
use Rattle.ts_packets.specs.PidCounters.{IsPidCounter}
use Rattle.desk_core.specs.Journal.{publishes}
use Rattle.desk_checkpoint.specs.Checkpoints.{Checkpoint}

abbrev pub HasVersion : KeyVersion → Type 0
HasVersion key = key.version < 32

-- how many publications the desk has, and the ranges of what was read
pub record IsReading (cp : Checkpoint) (published : ℕ) : Type 0 where
  pub published_are : published ≡ publishes cp.desk.entries
  pub count : cp.count < 10 ^ 18
  pub keys : All HasVersion cp.keys
  pub current : IfSome cp.current HasVersion
  pub number : cp.number ≤ 256
  pub counters : All IsPidCounter cp.counters
  pub pid : cp.pid ≤ 8192
