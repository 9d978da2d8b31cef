use Rattle.std.proofs.Common.{◌≡◌, ◌++◌, drop}
use Rattle.ts_packets.specs.PidCounters.{kept_from}
use Rattle.ts_packets.proofs.counters.Counters.kept.Given as goal

-- the counters so far and those behind are all
abbrev pub invariant-loop-pid : goal.invariant-loop-pid
invariant-loop-pid l = l.kept ++ kept_from l.pid (drop l.pid l.self-inside.next) ≡ kept_from 0 l.self
